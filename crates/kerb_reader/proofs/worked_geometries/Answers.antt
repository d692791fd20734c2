-- `kerb_reader::worked_geometries` meets its contract.
use Rattle.kerb_reader.proofs.Rows.{worked}
use Rattle.kerb_reader.proofs.worked_geometries.Goals as goal

pub returns : goal.returns
returns c = worked
