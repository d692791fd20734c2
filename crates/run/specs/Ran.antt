-- What the run of a job comes to (01, the program sweep), case by case.
use Rattle.std.specs.Prelude.{ℕ, Result, Ok, Err}
use Rattle.refusal.specs.Numbers.{number_of}
use Rattle.run.specs.declared.Finish.{Finish}
use Rattle.run.specs.declared.RunRefusal.{RunRefusal}
use Rattle.run.specs.declared.RunRefusal.TheVariants as R

-- finished; stopped, with the refusal's number, and the unit and the step counted from 1; or refused before anything was written
pub data Ran : Type 0 where
  finished : Finish → Ran
  stopped : ℕ → ℕ → ℕ → Ran
  refused : ℕ → Ran

-- the same, of the program's answer
abbrev pub as_ran : Result Finish RunRefusal → Ran
as_ran (Ok f) = finished f
as_ran (Err (R.Stopped s)) = stopped (number_of s.fault) s.unit s.step
as_ran (Err (R.Refused f)) = refused (number_of f)
