-- `heading::move_along` meets its contract.
use mathlib.Core.Path.{sym, subst₂}
use lib.IntN.{ℤ, pos}
use Rattle.exact.proofs.Polynomial.{var}
use Rattle.exact.proofs.Machine.{held}
use Rattle.plane.specs.declared.Vec2.{Vec2}
use Rattle.plane.specs.Vector.{Scalable}
use Rattle.heading.proofs.Steering.{move_bounds, move_moderate, move_scalable}
use Rattle.heading.proofs.move_along.Goals as goal

pub plus-requires : goal.plus-requires
plus-requires c = move_moderate c.requires

pub scaled-requires : goal.scaled-requires
scaled-requires c =
    let t = c.requires in
    subst₂ (λ (v : Vec2) (n : ℤ). Scalable v n (pos 2000000)) (sym c.plus.ensures) (sym (held (move_bounds t) (var 4) tt)) (move_scalable t)
