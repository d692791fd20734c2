-- `unit::turn_rule` meets its contract.
use Rattle.unit.proofs.Turning.{rule}
use Rattle.unit.proofs.turn_rule.Goals as goal

pub returns : goal.returns
returns c = rule
