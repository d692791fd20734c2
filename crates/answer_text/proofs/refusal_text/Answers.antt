-- `answer_text::refusal_text` meets its contract.
use native.Mathlib.Omega.{arith}
use Rattle.std.proofs.Common.{rules, ◌≡◌}
use Rattle.swept.specs.declared.SweepTold.TheVariants as T
use Rattle.answer_text.specs.Printed.{printed}
use Rattle.answer_text.proofs.AnswerLaws.{whole}
use Rattle.answer_text.proofs.refusal_text.Goals as goal

pub returns-in-Stopped : goal.returns-in-Stopped
unfolding printed
returns-in-Stopped g c =
    let e : g.R.Tell.told c.args.refusal ≡ T.Stopped c.in-Stopped.number c.in-Stopped.unit c.in-Stopped.step = search rules in
    rw e (whole _ _ 81 (omega arith) c.stopped_text.ensures)

pub returns-in-Refused : goal.returns-in-Refused
unfolding printed
returns-in-Refused g c =
    let e : g.R.Tell.told c.args.refusal ≡ T.Refused c.in-Refused.number c.in-Refused.byte = search rules in
    rw e (whole _ _ 53 (omega arith) c.refused_text.ensures)
