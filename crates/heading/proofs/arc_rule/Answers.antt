-- `heading::arc_rule` meets its contract.
use Rattle.heading.proofs.Arc.{arc_is_tangent}
use Rattle.heading.proofs.arc_rule.Goals as goal

pub returns : goal.returns
returns c = arc_is_tangent
