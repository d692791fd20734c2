-- `kerb_told::kerb_text` meets its contract.
use mathlib.Core.Path.{◌≡◌, refl, sym}
use native.Mathlib.Omega.{arith}
use borrow.Author.Rules.{rules}
use Rattle.std.specs.Prelude.{None, Some, Ok}
use Rattle.swept.specs.declared.SweepTold.{SweepTold}
use Rattle.swept.specs.declared.SweepTold.TheVariants as T
use Rattle.swept.specs.Answers.{as_refused}
use Rattle.answer_text.specs.Printed.{printed}
use Rattle.answer_text.proofs.AnswerLaws.{whole}
use Rattle.kerbed.specs.Answers.{as_refused as kerb_refused}
use Rattle.kerb_told.specs.Printed.{printed_kerb}
use Rattle.kerb_told.proofs.kerb_text.Goals as goal

-- a refusal is printed alike with a kerb and without one
refused : (t : SweepTold) → printed (as_refused t) ≡ printed_kerb (kerb_refused t)
unfolding printed printed_kerb
refused (T.Stopped n u k) = refl
refused (T.Refused n p) = refl

pub returns-in-Ok-None : goal.returns-in-Ok-None
unfolding printed_kerb
returns-in-Ok-None g c =
    let e : c.args.k ≡ Ok None = search rules in
    rw e (whole _ _ 11 (omega arith) c.none_text.ensures)

pub returns-in-Ok-Some : goal.returns-in-Ok-Some
unfolding printed_kerb
returns-in-Ok-Some g c =
    let e : c.args.k ≡ Ok (Some c.in-Ok-Some.touch) = search rules in
    rw e (whole _ _ 48 (omega arith) c.touch_text.ensures)

pub returns-in-Err : goal.returns-in-Err
returns-in-Err g c =
    let t = g.R.Tell.told c.in-Err.refusal in
    rw (c.in-Err.is, sym (refused t)) c.refusal_text.ensures
