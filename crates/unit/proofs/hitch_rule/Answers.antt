-- `unit::hitch_rule` meets its contract.
use Rattle.unit.proofs.Hitching.{hitch_rule_lem}
use Rattle.unit.proofs.hitch_rule.Goals as goal

pub returns : goal.returns
returns c = hitch_rule_lem
