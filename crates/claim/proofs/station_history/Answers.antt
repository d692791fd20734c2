-- `claim::station_history` meets its contract.
use Rattle.claim.proofs.HistoryClaims.{station_history_lem}
use Rattle.claim.proofs.station_history.Goals as goal

pub returns : goal.returns
returns c = station_history_lem
