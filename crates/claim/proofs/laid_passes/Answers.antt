-- `claim::laid_passes` meets its contract.
use Rattle.claim.proofs.LaidLaws.{laid_passes_lem}
use Rattle.claim.proofs.laid_passes.Goals as goal

pub returns : goal.returns
returns c = laid_passes_lem
