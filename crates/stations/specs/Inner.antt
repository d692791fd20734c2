-- What the functions below the entries answer, and what they ask of their callers.
use Rattle.std.specs.Prelude.{ℕ, ◌≡◌, true, false}
use Rattle.number.specs.Read.{pick}
use Rattle.plane.specs.declared.Vec2.{Vec2}
use Rattle.job.specs.declared.Vehicle.{Vehicle}
use Rattle.walk.specs.declared.Walk.{Walk}
use Rattle.walk.specs.Drawn.{Drawn, Call}
use Rattle.walk.specs.Tests.{lent, path_sound, vehicle_sound, record_sound, at_last}
use Rattle.points.specs.Requires.{RigAt}

-- 21, then 26; 0 for none
unfoldable pub call_refusal : Call → ℕ
call_refusal c = pick (lent c) (pick (path_sound c.asked c.path) 0 26) 21

-- 27, of a placement
unfoldable pub vehicle_refusal : Vehicle → ℕ
vehicle_refusal v = pick (vehicle_sound v) 0 27

-- 27, then 25, of a step
unfoldable pub record_refusal : ℕ → Drawn → ℕ
record_refusal asked s = pick (record_sound asked s) (pick (at_last asked s) 25 0) 27

-- two states of one vehicle's rig whose points are entered at the stations of a path
pub record Enterable (w w' : Walk) (old new : Vec2) (c : Call) : Type 0 where
  pub lent : lent c ≡ true
  pub path : path_sound c.asked c.path ≡ true
  pub vehicle : w'.vehicle ≡ w.vehicle
  pub before : RigAt w.vehicle w.d old
  pub after : RigAt w'.vehicle w'.d new

-- a call that passed the tests 21, 26, 27 and 25
pub record Open (s : Drawn) (c : Call) : Type 0 where
  pub lent : lent c ≡ true
  pub path : path_sound c.asked c.path ≡ true
  pub rig : record_sound c.asked s ≡ true
  pub not_last : at_last c.asked s ≡ false
