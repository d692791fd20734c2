-- `ranking::best_three` meets its contract.
use Rattle.ranking.proofs.RankLaws.{best_three_lem}
use Rattle.ranking.proofs.best_three.Goals as goal

pub returns : goal.returns
returns c = best_three_lem
