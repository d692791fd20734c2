-- `kerb_line::bounds::Bounds::of_moves` meets its contract.
use Rattle.kerb_line.proofs.BoundsLaws.{enclosed_by}
use Rattle.kerb_line.proofs.bounds.Bounds.of_moves.Goals as goal

pub returns : goal.returns
returns c = enclosed_by c.around.ensures c.around-2.ensures
