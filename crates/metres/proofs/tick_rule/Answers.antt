-- `metres::tick_rule` meets its contract.
use Rattle.metres.proofs.Ticks.{tick_rule_lem}
use Rattle.metres.proofs.tick_rule.Goals as goal

pub returns : goal.returns
returns c = tick_rule_lem
