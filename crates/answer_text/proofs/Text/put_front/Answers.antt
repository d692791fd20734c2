-- `answer_text::Text::put_front` meets its contract: each signed value is read back from its bits as it was.
use mathlib.Core.Path.{◌≡◌}
use mir.Syntax.{w64}
use mir.Val.{to_z, of_z}
use borrow.Author.Rules.{rules}
use Rattle.text.specs.Ascii.{ascii}
use Rattle.answer_text.proofs.LineLaws.{join}
use Rattle.answer_text.proofs.Text.put_front.Goals as goal

pub returns : goal.returns
unfolding ascii
returns c =
    let x : to_z w64 (of_z w64 c.args.v.x) ≡ c.args.v.x = search rules in
    let y : to_z w64 (of_z w64 c.args.v.y) ≡ c.args.v.y = search rules in
    join (join (rw x at c.put_signed.ensures) (rw y at c.put_signed-2.ensures)) c.put_words.ensures
