-- `points::point` meets its contract: by the sizes of the units and the measures nothing overflows.
use mathlib.Core.Path.{◌≡◌, ◌∙◌, ap}
use lib.Dec.{lit≤}
use Rattle.exact.proofs.Machine.{reread, reread_result}
use Rattle.points.specs.declared.corners.Corner.{Corner}
use Rattle.points.specs.Corners.{corner_of}
use Rattle.points.specs.Points.{point_at, along_of, half_width, side_of}
use Rattle.points.specs.Requires.{OffsetSized}
use Rattle.points.proofs.EndLaws.{place_moderate}
use Rattle.points.proofs.PointLaws.{row_asked, offset_sized}
use Rattle.points.proofs.point.Goals as goal
use Rattle.points.proofs.point.Goals.{After-side_of-beside}

-- what the row selects, and that it can be measured
module _ (c : After-side_of-beside) where
  abbrev corner : Corner
  corner = corner_of c.args.v c.args.row.base

  ahead : reread c.along_of-ahead.result ≡ along_of corner c.args.row.along
  ahead = reread_result c.along_of-ahead.type_inv (c.along_of-ahead.ensures ∙ ap (λ (k : Corner). along_of k c.args.row.along) c.corner_of-c.ensures)

  width : reread c.half_width.result ≡ half_width c.args.v corner c.args.row.width
  width = reread_result c.half_width.type_inv (c.half_width.ensures ∙ ap (λ (k : Corner). half_width c.args.v k c.args.row.width) c.corner_of-c.ensures)

  beside : reread c.side_of-beside.result ≡ side_of c.args.row.side (half_width c.args.v corner c.args.row.width)
  beside = reread_result c.side_of-beside.type_inv (c.side_of-beside.ensures ∙ ap (side_of c.args.row.side) width)

  asked : OffsetSized c.end_of-e.result (reread c.along_of-ahead.result) (reread c.side_of-beside.result)
  asked = rw (c.end_of-e.ensures, ahead, beside) (row_asked c.args.row c.requires.base c.requires.body c.requires.rig)

pub offset_from-requires : goal.offset_from-requires
offset_from-requires c = asked (goal.at.offset_from-requires c).After-side_of-beside

pub plus-requires : goal.plus-requires
plus-requires c =
    let o = asked (goal.at.plus-requires c).After-side_of-beside in
    record { first = place_moderate (lit≤ tt) o.end.place; second = rw c.offset_from.ensures (place_moderate (lit≤ tt) (offset_sized o)) }

pub returns : goal.returns
unfolding point_at
returns c =
    let s = (goal.at.returns c).After-side_of-beside in
    c.plus.ensures ∙ rw (c.offset_from.ensures, c.end_of-e.ensures, ahead s, beside s)
