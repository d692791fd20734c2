-- `claim::premises_met` meets its contract.
use Rattle.claim.proofs.CallsWitness.{premises_met_lem}
use Rattle.claim.proofs.premises_met.Goals as goal

pub returns : goal.returns
returns c = premises_met_lem
