-- `claim::widest_history` meets its contract.
use Rattle.claim.proofs.HistoryClaims.{widest_history_lem}
use Rattle.claim.proofs.widest_history.Goals as goal

pub returns : goal.returns
returns c = widest_history_lem
