-- `answer_text::Text::put_place` meets its contract: each signed value is read back from its bits as it was.
use mathlib.Core.Path.{◌≡◌}
use mir.Syntax.{w64}
use mir.Val.{to_z, of_z}
use borrow.Author.Rules.{rules}
use Rattle.text.specs.Ascii.{ascii}
use Rattle.answer_text.proofs.LineLaws.{join}
use Rattle.answer_text.proofs.Text.put_place.Goals as goal

pub returns : goal.returns
unfolding ascii
returns c =
    let width : to_z w64 (of_z w64 c.args.p.width) ≡ c.args.p.width = search rules in
    let left : to_z w64 (of_z w64 c.args.p.left) ≡ c.args.p.left = search rules in
    let right : to_z w64 (of_z w64 c.args.p.right) ≡ c.args.p.right = search rules in
    join (join (join (join c.put_number.ensures (rw width at c.put_signed.ensures)) (rw left at c.put_signed-2.ensures)) (rw right at c.put_signed-3.ensures)) c.put_words.ensures
