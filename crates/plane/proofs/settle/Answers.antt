-- `plane::settle` meets its contract: by the sizes of x, y, k and |v|² nothing overflows.
use mathlib.Core.Path.{sym, subst₂}
use Rattle.exact.proofs.Polynomial.{Expr, var, lit, ◌⊖◌, ◌⊗◌}
use Rattle.exact.proofs.Machine.{fits, held}
use Rattle.plane.specs.Vector.{Scalable}
use Rattle.plane.proofs.SettleSizes.{settle_bounds, settle_moderate, settle_scalable}
use Rattle.plane.proofs.settle.Goals as goal

abbrev KK : Expr
KK = var 2 ⊗ var 2

abbrev M : Expr
M = lit 3 ⊗ KK ⊖ var 3

pub dot-requires : goal.dot-requires
dot-requires c = settle_moderate c.requires

pub overflow_sub-square : goal.overflow_sub-square
overflow_sub-square c = rw c.dot.ensures (fits (settle_bounds c.requires) M tt)

pub overflow_mul-square-2 : goal.overflow_mul-square-2
overflow_mul-square-2 c = fits (settle_bounds c.requires) (lit 3 ⊗ KK) tt

pub overflow_mul-square-3 : goal.overflow_mul-square-3
overflow_mul-square-3 c = fits (settle_bounds c.requires) (lit 2 ⊗ KK) tt

pub scaled-requires : goal.scaled-requires
scaled-requires c =
    let s = settle_bounds c.requires in
    rw c.dot.ensures (subst₂ (Scalable c.args.v) (sym (held s M tt)) (sym (held s (lit 2 ⊗ KK) tt)) (settle_scalable c.requires))

pub returns : goal.returns
returns c =
    let s = settle_bounds c.requires in
    rw (c.dot.ensures, held s M tt, held s (lit 2 ⊗ KK) tt) at c.scaled.ensures
