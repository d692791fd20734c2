-- Worked points, by computation.
use mathlib.Core.Path.{refl}
use Rattle.exact.specs.Nearest.{half_to, nearest_size, nearest_z}
use Rattle.unit.specs.Coupling.{hitch_offset}
use Rattle.marks.specs.Count.{point_count}
use Rattle.points.specs.Corners.{body_of, front_corner, rear_corner, corner_of}
use Rattle.points.specs.Ends.{unit_places}
use Rattle.points.specs.Points.{point_at, rig_points}
use Rattle.points.specs.Worked.{WorkedPoints}

pub worked_points_lem : WorkedPoints
unfolding half_to nearest_size nearest_z hitch_offset point_count unit_places body_of front_corner rear_corner corner_of point_at rig_points
worked_points_lem = record { north = refl; east = refl; short = refl; long = refl; four = refl }
