-- `exact::nearest_rule` meets its contract.
use Rattle.exact.proofs.Halves.{rule}
use Rattle.exact.proofs.nearest_rule.Goals as goal

pub returns : goal.returns
returns c = rule
