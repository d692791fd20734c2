-- `kerb_claim::worked_reports` meets its contract.
use Rattle.kerb_claim.proofs.Rows.{worked}
use Rattle.kerb_claim.proofs.worked_reports.Goals as goal

pub returns : goal.returns
returns c = worked
