-- The drawn rig (01, "The two rigs of demand 3"): its state, what it is fed and what it answers. It reads no program record.
use Rattle.std.specs.Prelude.{ℕ, List, Result, Ok, Err}
use Rattle.refusal.specs.Numbers.{number_of}
use Rattle.plane.specs.declared.Vec2.{Vec2}
use Rattle.job.specs.declared.Vehicle.{Vehicle}
use Rattle.path.specs.Laying.{PathRuns}
-- a station of a path is what laying has there
pub use Rattle.path.specs.Laying.{station_at}
use Rattle.walk.specs.declared.Walk.{Walk}
use Rattle.walk.specs.declared.StepRefusal.{StepRefusal}
use Rattle.walk.specs.declared.StepRefusal.TheVariants as S

-- "Its state is the vehicle, a station k and a vector d for each unit"
pub record Drawn : Type 0 where
  pub vehicle : Vehicle
  pub station : ℕ
  pub vectors : List Vec2

-- what a walk record shows of it
abbrev pub view : Walk → Drawn
view w = record { vehicle = w.vehicle; station = w.station; vectors = w.d }

-- the lengths of the three lent runs that are not the path's
pub record Lengths : Type 0 where
  pub left : ℕ
  pub right : ℕ
  pub marks : ℕ

-- what a call hands over: the stations asked for, the path and the lengths of the other lent runs
pub record Call : Type 0 where
  pub asked : ℕ
  pub path : PathRuns
  pub reaches : Lengths

-- what a step call answers: that the step is made, a refusal's number, or its number and unit
pub data Outcome : Type 0 where
  made : Outcome
  refused : ℕ → Outcome
  refused_at : ℕ → ℕ → Outcome

-- the same, of the program's answer
abbrev pub outcome_of : Result (Unit {0}) StepRefusal → Outcome
outcome_of (Ok u) = made
outcome_of (Err (S.Call f)) = refused (number_of f)
outcome_of (Err (S.Unit r)) = refused_at (number_of r.fault) r.unit
