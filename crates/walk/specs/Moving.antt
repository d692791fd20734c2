-- What starting and advancing a walk record come to, and what they ask.
use Rattle.std.specs.Prelude.{ℕ, ◌≤◌, ◌<◌, ◌≡◌, get_or, pos, ◌*ℤ◌}
use Rattle.plane.specs.declared.Vec2.{Vec2}
use Rattle.plane.specs.Length.{heading_length, Near}
use Rattle.job.specs.declared.Vehicle.{Vehicle}
use Rattle.job.specs.Empty.{empty_unit}
use Rattle.walk.specs.declared.Walk.{Walk}
use Rattle.walk.specs.Drawn.{view, Outcome, made}
use Rattle.walk.specs.Tests.{units_in_use}
use Rattle.walk.specs.Units.{none, turn_units}
use Rattle.walk.specs.Rig.{after_turning}
use Rattle.walk.specs.Inner.{UnitReady, UnitsReady}

-- what the start asks: measures in the job's range, and a heading
pub record StartReady (v : Vehicle) (g : Vec2) : Type 0 where
  pub most : v.count ≤ 4
  pub units : (i : ℕ) → i < v.count → UnitReady (get_or v.units i empty_unit)
  pub heading : Near g heading_length (pos 2 *ℤ heading_length)

-- what a step asks: a rig that can be drawn, front points on a path, and a station on it
pub record AdvanceReady (w : Walk) (old new : Vec2) : Type 0 where
  pub units : UnitsReady w.vehicle w.d old new
  pub station : w.station ≤ 2001

-- what a step answers, and the record that it leaves
pub record Advanced : Type 0 where
  pub answer : Outcome
  pub walk : Walk

-- the answer and the state are those of the units' turns; a refused step leaves the record as it was
pub record AdvanceEnsures (w : Walk) (old new : Vec2) (r : Advanced) : Type 0 where
  pub stepped : record { answer = r.answer; state = view r.walk } ≡ after_turning (view w) (turn_units 1 none (units_in_use w.vehicle) w.d old new)
  pub unchanged : (r.answer ≡ made → ⊥) → r.walk ≡ w
