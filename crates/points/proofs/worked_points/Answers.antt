-- `points::worked_points` meets its contract.
use Rattle.points.proofs.Rows.{worked_points_lem}
use Rattle.points.proofs.worked_points.Goals as goal

pub returns : goal.returns
returns c = worked_points_lem
