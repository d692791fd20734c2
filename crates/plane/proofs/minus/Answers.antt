-- `plane::minus` meets its contract.
use Rattle.exact.proofs.Polynomial.{var, ◌⊖◌}
use Rattle.exact.proofs.Machine.{held}
use Rattle.plane.proofs.Pairs.{pair_bounds}
use Rattle.plane.proofs.minus.Goals as goal

pub returns : goal.returns
returns c =
    let s = pair_bounds c.requires in
    let ex = held s (var 0 ⊖ var 2) tt in
    let ey = held s (var 1 ⊖ var 3) tt in
    λ i. record { x = ex i; y = ey i }
