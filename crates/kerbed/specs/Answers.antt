-- What a job and a kerb come to, from their bytes (02, N4), case by case.
use Rattle.std.specs.Prelude.{ℕ, Option, None, Some, Result, Ok, Err}
use Rattle.kerb_report.specs.declared.Touch.{Touch}
use Rattle.swept.specs.declared.SweepRefusal.{SweepRefusal}
use Rattle.swept.specs.declared.SweepTold.{SweepTold}
use Rattle.swept.specs.declared.SweepTold.TheVariants as T
use Rattle.swept.specs.Answers.{told_refusal}

-- no touch; the first step that touches and its lowest point; stopped, with the number, the unit and the step;
-- or refused, with the byte where the field starts (0 beside 21 and 26)
pub data Kerbed : Type 0 where
  nothing : Kerbed
  touch : ℕ → ℕ → Kerbed
  stopped : ℕ → ℕ → ℕ → Kerbed
  refused : ℕ → ℕ → Kerbed

-- what a refusal says that is told
abbrev pub as_refused : SweepTold → Kerbed
as_refused (T.Stopped n u k) = stopped n u k
as_refused (T.Refused n p) = refused n p

-- what an answer says whose refusal is told so
abbrev pub kerbed_by : {R : Type 0} → (R → SweepTold) → Result (Option Touch) R → Kerbed
kerbed_by told (Ok None) = nothing
kerbed_by told (Ok (Some t)) = touch t.step t.point
kerbed_by told (Err r) = as_refused (told r)

-- the same, of the program's answer
abbrev pub as_kerbed : Result (Option Touch) SweepRefusal → Kerbed
as_kerbed = kerbed_by told_refusal
