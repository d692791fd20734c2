-- `points::points` meets its contract: the points left, over those filled in, are all of them.
use Prim.Native.Nat.{◌+◌, ◌<◌, ◌≤◌}
use mathlib.Core.Path.{◌≡◌, sym, ◌∙◌, ap, subst₂}
use mathlib.Core.List.{List, ◌++◌, map}
use native.Mathlib.Omega.{arith}
use lib.ListN.{length, take, drop, set}
use lib.Seq.{sets}
use Rattle.std.proofs.lemmas.List.{set-append_left, take-append-drop, length-take-le}
use Rattle.plane.specs.declared.Vec2.{Vec2}
use Rattle.marks.specs.Count.{point_count, point_capacity}
use Rattle.marks.proofs.CountLaws.{count_fits}
use Rattle.points.specs.declared.UnitPlace.{UnitPlace}
use Rattle.point_table.specs.Table.{point_rows, row_at}
use Rattle.points.specs.Points.{point_at, no_points}
use Rattle.points.specs.Requires.{Measured}
use Rattle.points.proofs.Filling.{filled_more, filled_all}
use Rattle.points.proofs.TableLaws.{rows_enough, row_in_use}
use Rattle.points.proofs.PointLaws.{array_sized, array_points}
use Rattle.points.proofs.points.Goals as goal
use Rattle.points.proofs.points.Goals.{After-point_count}

-- the points of the vehicle fit
module _ (c : After-point_count) where
  fits : c.point_count.result ≤ point_capacity
  fits = omega (arith, c.point_count.ensures, count_fits c.args.v c.requires.rig.most)

  many : length (take c.point_count.result no_points) ≡ point_count c.args.v
  many = length-take-le c.point_count.result no_points fits ∙ c.point_count.ensures

pub slice_bounds-all-end : goal.slice_bounds-all-end
slice_bounds-all-end c = fits (goal.at.slice_bounds-all-end c).After-point_count

pub slice_bounds-place-items-end : goal.slice_bounds-place-items-end
slice_bounds-place-items-end c = let f = fits (goal.at.slice_bounds-place-items-end c).After-point_count in sym (length-take-le c.point_count.result no_points f)

pub loop-k-init : goal.loop-k-init
loop-k-init c = rw (c.point_count.ensures, take-append-drop (point_count c.args.v) no_points)

-- a point of the loop is one of the vehicle's, so it has its row and its place

pub point-requires : goal.point-requires
point-requires c =
    let r = c.requires in
    let b = (goal.at.point-requires c).After-point_count in
    let h : c.loop-k.k < point_count c.args.v = omega (arith, c.loop-k-test.true, many b) in
    subst₂ (Measured c.args.v) (sym c.unit_places-places.ensures) (sym c.row_of.ensures)
    (record { rig = array_sized r; body = r.body; base = row_in_use c.args.v r.rig.least r.rig.most c.loop-k.k h })

pub loop-k-preserved : goal.loop-k-preserved
loop-k-preserved c =
    let l = c.loop-k in
    let b = (goal.at.loop-k-preserved c).After-point_count in
    let n = point_count c.args.v in
    let h : l.k < n = omega (arith, c.loop-k-test.true, many b) in
    let within : l.k < length l.place-items = omega (arith, c.loop-k-test.true) in
    let placed = point_at c.args.v c.unit_places-places.result in
    let left = map placed (drop (l.k + 1) (take n point_rows)) in
    ap (λ (ps : List Vec2). sets ps (l.k + 1) left) (sym (set-append_left l.place-items (drop n no_points) l.k c.point.result within))
    ∙ ap (λ (p : Vec2). sets (set (l.place-items ++ drop n no_points) l.k p) (l.k + 1) left) (c.point.ensures ∙ ap placed c.row_of.ensures)
    ∙ filled_more placed point_rows n (l.place-items ++ drop n no_points) l.k (row_at 0) (rows_enough c.args.v c.requires.rig.most) h ∙ l.invariant

pub returns : goal.returns
returns c =
    let l = c.loop-k in
    let b = (goal.at.returns c).After-point_count in
    let n = point_count c.args.v in
    let h : n ≤ l.k = omega (arith, c.loop-k-test.false, many b) in
    let placed = point_at c.args.v c.unit_places-places.result in
    rw c.point_count.ensures
    (sym (filled_all placed point_rows n (l.place-items ++ drop n no_points) l.k h) ∙ l.invariant
    ∙ ap (λ (ps : List UnitPlace). sets no_points 0 (map (point_at c.args.v ps) (take n point_rows))) c.unit_places-places.ensures
    ∙ ap (sets no_points 0) (array_points c.requires))
