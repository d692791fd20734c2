-- `walk::step_rule` meets its contract.
use Rattle.walk.proofs.StepKept.{step_rule_lem}
use Rattle.walk.proofs.step_rule.Goals as goal

pub returns : goal.returns
returns c = step_rule_lem
