-- `claim::demand_three` meets its contract.
use Rattle.claim.proofs.CallsKept.{demand_three_lem}
use Rattle.claim.proofs.demand_three.Goals as goal

pub returns : goal.returns
returns c = demand_three_lem
