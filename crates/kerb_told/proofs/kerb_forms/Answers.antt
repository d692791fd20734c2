-- `kerb_told::kerb_forms` meets its contract.
use Rattle.kerb_told.proofs.Rows.{kerb_forms_lem}
use Rattle.kerb_told.proofs.kerb_forms.Goals as goal

pub returns : goal.returns
returns c = kerb_forms_lem
