-- `unit::placed_rule` meets its contract.
use Rattle.unit.proofs.Placing.{rule}
use Rattle.unit.proofs.placed_rule.Goals as goal

pub returns : goal.returns
returns c = rule
