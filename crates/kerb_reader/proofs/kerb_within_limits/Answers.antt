-- `kerb_reader::kerb_within_limits` meets its contract.
use Rattle.kerb_reader.proofs.Limits.{kerb_within}
use Rattle.kerb_reader.proofs.kerb_within_limits.Goals as goal

pub returns : goal.returns
returns c = kerb_within
