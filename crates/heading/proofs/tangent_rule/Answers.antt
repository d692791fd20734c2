-- `heading::tangent_rule` meets its contract.
use Rattle.heading.proofs.Angle.{half_angle}
use Rattle.heading.proofs.tangent_rule.Goals as goal

pub returns : goal.returns
returns c = half_angle
