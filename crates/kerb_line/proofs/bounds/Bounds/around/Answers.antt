-- `kerb_line::bounds::Bounds::around` meets its contract: the places before the index are taken in.
use Rattle.kerb_line.proofs.BoundsLaws.{around_more}
use Rattle.kerb_line.proofs.bounds.Bounds.around.Goals as goal

pub loop-place-preserved : goal.loop-place-preserved
loop-place-preserved c = around_more c.loop-place.invariant c.widened-bounds.ensures
