-- `plane::drawn_rule` meets its contract.
use Rattle.plane.proofs.Keeping.{rule}
use Rattle.plane.proofs.drawn_rule.Goals as goal

pub returns : goal.returns
returns c = rule
