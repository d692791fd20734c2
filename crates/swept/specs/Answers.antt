-- What a job comes to, from its bytes (01, "Rigs to try", the program sweep), case by case.
use Rattle.std.specs.Prelude.{ℕ, Result, Ok, Err}
use Rattle.refusal.specs.Numbers.{number_of}
use Rattle.run.specs.declared.Finish.{Finish}
use Rattle.swept.specs.declared.SweepRefusal.{SweepRefusal}
use Rattle.swept.specs.declared.SweepRefusal.TheVariants as R
use Rattle.swept.specs.declared.SweepTold.{SweepTold}
use Rattle.swept.specs.declared.SweepTold.TheVariants as T

-- finished; stopped, with the refusal's number, the unit and the step; or refused, with the byte where the field starts (0 beside 21)
pub data Swept : Type 0 where
  finished : Finish → Swept
  stopped : ℕ → ℕ → ℕ → Swept
  refused : ℕ → ℕ → Swept

-- a refusal by the number that tells it
abbrev pub told_refusal : SweepRefusal → SweepTold
told_refusal (R.Stopped s) = T.Stopped (number_of s.fault) s.unit s.step
told_refusal (R.Refused r) = T.Refused (number_of r.fault) r.place

-- what a refusal says that is told
abbrev pub as_refused : SweepTold → Swept
as_refused (T.Stopped n u k) = stopped n u k
as_refused (T.Refused n p) = refused n p

-- what an answer says whose refusal is told so
abbrev pub swept_by : {R : Type 0} → (R → SweepTold) → Result Finish R → Swept
swept_by told (Ok f) = finished f
swept_by told (Err r) = as_refused (told r)

-- the same, of the program's answer
abbrev pub as_swept : Result Finish SweepRefusal → Swept
as_swept = swept_by told_refusal
