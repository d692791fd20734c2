-- A step that is refused, told with its number (01, the program sweep: "stopped" with the number, the unit and the step).
use Rattle.std.specs.Prelude.{ℕ}
use Rattle.walk.specs.declared.StepRefusal.{StepRefusal}
use Rattle.walk.specs.declared.StepRefusal.TheVariants as S
use Rattle.run.specs.declared.Stop.{Stop}

-- unit 0 where the refusal names none
abbrev pub stop_at : StepRefusal → ℕ → Stop
stop_at (S.Call f) k = record { fault = f; unit = 0; step = k }
stop_at (S.Unit r) k = record { fault = r.fault; unit = r.unit; step = k }
