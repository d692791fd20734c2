-- What the inner functions of a walk work with, and what they require of their callers.
use Rattle.std.specs.Prelude.{ℕ, ◌≤◌, ◌<◌, List, get_or, Option, None, Some, Result, Ok, Err, pos, nat_abs, ◌*ℤ◌}
use Rattle.exact.specs.Size.{Within}
use Rattle.number.specs.Read.{pick}
use Rattle.plane.specs.declared.Vec2.{Vec2}
use Rattle.plane.specs.Vector.{minus}
use Rattle.plane.specs.Length.{Near}
use Rattle.job.specs.declared.Unit.{Unit as VehicleUnit}
use Rattle.job.specs.declared.Vehicle.{Vehicle}
use Rattle.job.specs.Empty.{empty_unit}
use Rattle.refusal.specs.Numbers.{number_of, Answer, answered, refused}
use Rattle.unit.specs.Turn.{turned_by, too_far, Wheelbase}
use Rattle.walk.specs.declared.UnitRefusal.{UnitRefusal}
use Rattle.walk.specs.declared.units.Lead.{Lead}
use Rattle.walk.specs.Units.{wheelbase_of, Ahead, none, behind, fold_kept, Turning, turned, stopped}
use Rattle.walk.specs.Rig.{zero_vector}

-- one unit's turn in a step: 22, then 23, then the new vector
unfoldable pub next_turn : Ahead → VehicleUnit → Vec2 → Vec2 → Vec2 → Answer Vec2
next_turn ahead u d old new =
    let f = minus new old in
    let d' = turned_by d f (wheelbase_of u) in
    pick (too_far f (wheelbase_of u)) (refused 22) (pick (fold_kept ahead u d') (answered d') (refused 23))

-- the unit ahead, if there is one
abbrev pub ahead_of : Option Lead → Ahead
ahead_of None = none
ahead_of (Some a) = behind a.unit a.d

-- the turns of all units, of what the code answers
abbrev pub as_turning : Result (List Vec2) UnitRefusal → Turning
as_turning (Ok ds) = turned ds
as_turning (Err r) = stopped (number_of r.fault) r.unit

-- a unit whose measures are in the job's range
pub record UnitReady (u : VehicleUnit) : Type 0 where
  pub wheelbase : Wheelbase (wheelbase_of u)
  pub hitch : nat_abs u.hitch ≤ u.wheelbase
  pub fold : Within 1000 u.fold

-- a front point where a path or a hitch can take it
pub record Placed (p : Vec2) : Type 0 where
  pub x : Within 160000000 p.x
  pub y : Within 160000000 p.y

-- a unit and its vector that can be drawn
pub record UnitDrawn (u : VehicleUnit) (d : Vec2) : Type 0 where
  pub ready : UnitReady u
  pub near : Near d (wheelbase_of u) (pos 2 *ℤ wheelbase_of u)

-- what a hitch asks
pub record HitchReady (u : VehicleUnit) (front d : Vec2) : Type 0 where
  pub unit : UnitDrawn u d
  pub place : Placed front

-- what the fold test asks
pub record FoldReady (a : VehicleUnit) (ahead : Vec2) (u : VehicleUnit) (d : Vec2) : Type 0 where
  pub lead : UnitDrawn a ahead
  pub unit : UnitDrawn u d

-- the unit ahead, if there is one, can be drawn
abbrev pub AheadDrawn : Ahead → Type 0
AheadDrawn none = Unit {0}
AheadDrawn (behind a d) = UnitDrawn a d

-- what one unit's turn asks
pub record TurnReady (ahead : Ahead) (u : VehicleUnit) (d old new : Vec2) : Type 0 where
  pub unit : UnitDrawn u d
  pub lead : AheadDrawn ahead
  pub from : Placed old
  pub to : Placed new

-- a rig whose units in use can be drawn
pub record RigReady (v : Vehicle) (ds : List Vec2) : Type 0 where
  pub least : 1 ≤ v.count
  pub most : v.count ≤ 4
  pub units : (i : ℕ) → i < v.count → UnitDrawn (get_or v.units i empty_unit) (get_or ds i zero_vector)

-- what a step of the units asks: a rig, and front points on a path
pub record UnitsReady (v : Vehicle) (ds : List Vec2) (old new : Vec2) : Type 0 where
  pub rig : RigReady v ds
  pub old_x : Within 150000000 old.x
  pub old_y : Within 150000000 old.y
  pub new_x : Within 150000000 new.x
  pub new_y : Within 150000000 new.y
