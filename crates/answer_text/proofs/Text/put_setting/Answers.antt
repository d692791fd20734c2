-- `answer_text::Text::put_setting` meets its contract: the signed width is read back from its bits as it was.
use mathlib.Core.Path.{◌≡◌}
use mir.Syntax.{w64}
use mir.Val.{to_z, of_z}
use borrow.Author.Rules.{rules}
use Rattle.text.specs.Ascii.{ascii}
use Rattle.answer_text.proofs.LineLaws.{join}
use Rattle.answer_text.proofs.Text.put_setting.Goals as goal

pub returns : goal.returns
unfolding ascii
returns c =
    let width : to_z w64 (of_z w64 c.args.s.width) ≡ c.args.s.width = search rules in
    join (join (rw c.from.ensures at c.put_number.ensures) (rw width at c.put_signed.ensures)) c.put_words.ensures
