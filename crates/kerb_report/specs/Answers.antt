-- What the kerb report comes to (02, N4), case by case.
use Rattle.std.specs.Prelude.{ℕ, Option, None, Some, Result, Ok, Err}
use Rattle.refusal.specs.Numbers.{number_of}
use Rattle.run.specs.declared.RunRefusal.{RunRefusal}
use Rattle.run.specs.declared.RunRefusal.TheVariants as R
use Rattle.kerb_report.specs.declared.Touch.{Touch}

-- no touch up to the last station; the first step that touches and its lowest point; a step that is refused before any touch,
-- with the number, the unit and the step; or a refusal before any step
pub data KerbReport : Type 0 where
  nothing : KerbReport
  touch : ℕ → ℕ → KerbReport
  stopped : ℕ → ℕ → ℕ → KerbReport
  refused : ℕ → KerbReport

-- the same, of the program's answer
abbrev pub as_report : Result (Option Touch) RunRefusal → KerbReport
as_report (Ok None) = nothing
as_report (Ok (Some t)) = touch t.step t.point
as_report (Err (R.Stopped s)) = stopped (number_of s.fault) s.unit s.step
as_report (Err (R.Refused f)) = refused (number_of f)
