-- What the text of an answer ensures: the printed bytes, their number, and nothing but zeros after them.
use Rattle.std.specs.Prelude.{ℕ, ◌-◌, ◌≤◌, ◌≡◌, List, length, take, drop, replicate}
use Rattle.swept.specs.Answers.{Swept}
use Rattle.answer_text.specs.Printed.{printed}
use Rattle.answer_text.specs.declared.Text.{Text}

-- whatever was to be printed
pub record TextIs (lines : List ℕ) (r : Text) : Type 0 where
  pub starts : take r.length r.bytes ≡ lines
  pub zeros : drop r.length r.bytes ≡ replicate (192 - r.length) 0
  pub counted : r.length ≡ length lines
  pub fits : r.length ≤ 192

abbrev pub TextEnsures : Swept → Text → Type 0
TextEnsures s r = TextIs (printed s) r
