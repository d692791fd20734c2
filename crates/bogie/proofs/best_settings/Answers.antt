-- `bogie::best_settings` meets its contract.
use Rattle.bogie.proofs.BestLaws.{best_settings_lem}
use Rattle.bogie.proofs.best_settings.Goals as goal

pub returns : goal.returns
returns c = best_settings_lem
