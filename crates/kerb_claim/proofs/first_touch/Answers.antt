-- `kerb_claim::first_touch` meets its contract.
use Rattle.kerb_claim.proofs.FirstLaws.{first_touch_lem}
use Rattle.kerb_claim.proofs.first_touch.Goals as goal

pub returns : goal.returns
returns c = first_touch_lem
