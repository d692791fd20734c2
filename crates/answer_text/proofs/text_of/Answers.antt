-- `answer_text::text_of` meets its contract.
use native.Mathlib.Omega.{arith}
use Rattle.answer_text.specs.Printed.{printed}
use Rattle.answer_text.proofs.AnswerLaws.{whole}
use Rattle.answer_text.proofs.text_of.Goals as goal

pub returns-in-Ok : goal.returns-in-Ok
unfolding printed
returns-in-Ok g c = rw c.in-Ok.is (whole _ _ 166 (omega arith) c.finished_text.ensures)
