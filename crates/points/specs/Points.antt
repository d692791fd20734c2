-- The points of a rig (01, "Stations and the widest place"), as the table numbers them.
use Rattle.std.specs.Prelude.{List, map, get_or, take, replicate, ℤ, pos, neg_ℤ}
use Rattle.number.specs.Read.{pick}
use Rattle.plane.specs.declared.Vec2.{Vec2}
use Rattle.plane.specs.Vector.{plus, times, right_normal, nearest_v}
use Rattle.job.specs.declared.Side.{Side}
use Rattle.job.specs.declared.Side.TheVariants.{Left, Right}
use Rattle.job.specs.declared.Vehicle.{Vehicle}
use Rattle.walk.specs.Drawn.{Drawn}
use Rattle.walk.specs.Rig.{zero_vector}
use Rattle.marks.specs.Count.{point_count, point_capacity}
use Rattle.point_table.specs.declared.Base.{Base}
use Rattle.point_table.specs.declared.Along.{Along}
use Rattle.point_table.specs.declared.Along.TheVariants as A
use Rattle.point_table.specs.declared.Width.{Width}
use Rattle.point_table.specs.declared.Width.TheVariants as W
use Rattle.point_table.specs.declared.Row.{Row}
use Rattle.point_table.specs.Table.{point_rows}
use Rattle.points.specs.declared.UnitPlace.{UnitPlace}
use Rattle.points.specs.declared.End.{End}
use Rattle.points.specs.declared.corners.Corner.{Corner}
use Rattle.points.specs.Corners.{unit_of, is_front, corner_of}
use Rattle.points.specs.Ends.{no_place, places_of, front_end, rear_end}

-- "F of unit 1", "R of last unit"
abbrev pub end_of : Vehicle → List UnitPlace → Base → End
end_of v ps b = pick (is_front b) (front_end (get_or ps (unit_of v b) no_place)) (rear_end (get_or ps (unit_of v b) no_place))

abbrev pub along_of : Corner → Along → ℤ
along_of c A.Corner = c.along
along_of c A.Nothing = pos 0

abbrev pub half_width : Vehicle → Corner → Width → ℤ
half_width v c W.Corner = c.width
half_width v c W.FrontHalf = pos v.front_half_width
half_width v c W.RearHalf = pos v.rear_half_width

abbrev pub side_of : Side → ℤ → ℤ
side_of Left w = neg_ℤ w
side_of Right w = w

-- "A point is base + nearest (along × d + side × right normal of d) / L"
abbrev pub offset_from : End → ℤ → ℤ → Vec2
offset_from e along side = nearest_v (plus (times e.d along) (times (right_normal e.d) side)) e.wheelbase

unfoldable pub point_at : Vehicle → List UnitPlace → Row → Vec2
point_at v ps r =
    let e = end_of v ps r.base in
    let c = corner_of v r.base in
    plus e.place (offset_from e (along_of c r.along) (side_of r.side (half_width v c r.width)))

-- the points of a rig whose first front point lies at `front`: the first rows of the table, as many as the vehicle has points
unfoldable pub rig_points : Vehicle → List Vec2 → Vec2 → List Vec2
rig_points v ds front = map (point_at v (places_of v ds front)) (take (point_count v) point_rows)

abbrev pub points_of : Drawn → Vec2 → List Vec2
points_of s front = rig_points s.vehicle s.vectors front

-- an array of points without any
abbrev pub no_points : List Vec2
no_points = replicate point_capacity zero_vector
