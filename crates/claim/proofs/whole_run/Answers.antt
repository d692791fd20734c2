-- `claim::whole_run` meets its contract.
use Rattle.claim.proofs.RunKept.{whole_run}
use Rattle.claim.proofs.whole_run.Goals as goal

pub returns : goal.returns
returns c = whole_run
