-- `points::points` meets its contract: the points left, over those filled in, are all of them.
use mathlib.Core.Path.{◌≡◌}
use mathlib.Core.List.{◌++◌, map}
use lib.ListN.{take, drop}
use lib.Seq.{sets}
use Rattle.marks.specs.Count.{point_count}
use Rattle.point_table.specs.Table.{point_rows}
use Rattle.points.specs.Points.{point_at, no_points}
use Rattle.points.proofs.points.Given as goal

abbrev pub invariant-loop-k : goal.invariant-loop-k
invariant-loop-k l =
    let n = point_count l.v in
    let rows = take n point_rows in
    sets (l.place-items ++ drop n no_points) l.k (map (point_at l.v l.places) (drop l.k rows)) ≡ sets no_points 0 (map (point_at l.v l.places) rows)
