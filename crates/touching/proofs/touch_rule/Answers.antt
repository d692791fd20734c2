-- `touching::touch_rule` meets its contract.
use Rattle.touching.proofs.Common.{rule}
use Rattle.touching.proofs.touch_rule.Goals as goal

pub returns : goal.returns
returns c = rule
