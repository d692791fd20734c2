-- What the functions of this crate require of their callers: a rig as the walk's tests let it pass (01, "Why a walk is turned down", 26 and 27).
use Rattle.std.specs.Prelude.{ℕ, ◌≤◌, ◌<◌, List, get_or, ℤ, pos, ◌*ℤ◌}
use Rattle.exact.specs.Size.{Within}
use Rattle.plane.specs.declared.Vec2.{Vec2}
use Rattle.plane.specs.Length.{Near}
use Rattle.job.specs.declared.Vehicle.{Vehicle}
use Rattle.unit.specs.Turn.{Wheelbase}
use Rattle.walk.specs.Inner.{RigReady}
use Rattle.points.specs.declared.UnitPlace.{UnitPlace}
use Rattle.points.specs.declared.End.{End}
use Rattle.point_table.specs.declared.Base.{Base}
use Rattle.points.specs.declared.corners.Corner.{Corner}
use Rattle.points.specs.Corners.{unit_of, corner_of}
use Rattle.point_table.specs.declared.Row.{Row}
use Rattle.points.specs.Ends.{no_place}

-- the size of a place: coordinates up to b
pub record PlaceSized (b : ℕ) (p : Vec2) : Type 0 where
  pub x : Within b p.x
  pub y : Within b p.y

-- a unit in use, and a base whose unit is in use
pub record UnitInUse (v : Vehicle) (i : ℕ) : Type 0 where
  pub most : v.count ≤ 4
  pub unit : i < v.count

pub record BaseInUse (v : Vehicle) (b : Base) : Type 0 where
  pub most : v.count ≤ 4
  pub unit : unit_of v b < v.count

-- a corner and the half widths of the job's range
pub record CornerSized (c : Corner) : Type 0 where
  pub along : Within 50000 c.along
  pub width : Within 20000 c.width

pub record BodySized (v : Vehicle) : Type 0 where
  pub corner : (b : Base) → BaseInUse v b → CornerSized (corner_of v b)
  pub front_half_width : v.front_half_width ≤ 20000
  pub rear_half_width : v.rear_half_width ≤ 20000

-- a rig whose units can be drawn, with its first front point at f, where a station may lie
pub record RigAt (v : Vehicle) (ds : List Vec2) (f : Vec2) : Type 0 where
  pub rig : RigReady v ds
  pub body : BodySized v
  pub front : PlaceSized 150000000 f

-- a unit of a rig at a station
pub record UnitSized (p : UnitPlace) : Type 0 where
  pub front : PlaceSized 152000000 p.front
  pub rear : PlaceSized 152000000 p.rear
  pub wheelbase : Wheelbase p.wheelbase
  pub vector : Near p.d p.wheelbase (pos 2 *ℤ p.wheelbase)

-- the units in use of a rig at a station
pub record UnitsSized (v : Vehicle) (ps : List UnitPlace) : Type 0 where
  pub least : 1 ≤ v.count
  pub most : v.count ≤ 4
  pub units : (i : ℕ) → i < v.count → UnitSized (get_or ps i no_place)

-- an end of such a unit
pub record EndSized (e : End) : Type 0 where
  pub place : PlaceSized 152000000 e.place
  pub wheelbase : Wheelbase e.wheelbase
  pub vector : Near e.d e.wheelbase (pos 2 *ℤ e.wheelbase)

-- a point a ahead of an end and s to its right
pub record OffsetSized (e : End) (a s : ℤ) : Type 0 where
  pub end : EndSized e
  pub along : Within 50000 a
  pub side : Within 20000 s

-- a row of the table for a vehicle whose units stand at ps
pub record Measured (v : Vehicle) (ps : List UnitPlace) (r : Row) : Type 0 where
  pub rig : UnitsSized v ps
  pub body : BodySized v
  pub base : BaseInUse v r.base
