-- `kerb_reader::first_bytes` meets its contract.
use Rattle.kerb_reader.proofs.Places.{first_bytes_lem}
use Rattle.kerb_reader.proofs.first_bytes.Goals as goal

pub returns : goal.returns
returns c = first_bytes_lem
