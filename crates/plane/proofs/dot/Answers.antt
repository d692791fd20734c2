-- `plane::dot` meets its contract.
use Rattle.exact.proofs.Polynomial.{Expr, var, ◌⊕◌, ◌⊗◌}
use Rattle.exact.proofs.Machine.{fits, held}
use Rattle.plane.proofs.Pairs.{pair_bounds}
use Rattle.plane.proofs.dot.Goals as goal

abbrev PRODUCTS : Expr
PRODUCTS = var 0 ⊗ var 2 ⊕ var 1 ⊗ var 3

pub overflow_mul-result : goal.overflow_mul-result
overflow_mul-result c = fits (pair_bounds c.requires) (var 0 ⊗ var 2) tt

pub overflow_mul-result-2 : goal.overflow_mul-result-2
overflow_mul-result-2 c = fits (pair_bounds c.requires) (var 1 ⊗ var 3) tt

pub overflow_add-result : goal.overflow_add-result
overflow_add-result c = fits (pair_bounds c.requires) PRODUCTS tt

pub returns : goal.returns
returns c = held (pair_bounds c.requires) PRODUCTS tt
