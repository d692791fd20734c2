-- `reaches::crossing::ahead_of` meets its contract: by the sizes nothing overflows.
use Rattle.exact.proofs.Polynomial.{var, ◌⊖◌, ◌⊗◌}
use Rattle.exact.proofs.Machine.{fits, held}
use Rattle.reaches.proofs.ReachSizes.{measured, AHEAD}
use Rattle.reaches.proofs.crossing.ahead_of.Goals as goal

pub overflow_mul-result : goal.overflow_mul-result
overflow_mul-result c = fits (measured c.requires) ((var 0 ⊖ var 2) ⊗ var 4) tt

pub overflow_mul-result-2 : goal.overflow_mul-result-2
overflow_mul-result-2 c = fits (measured c.requires) ((var 1 ⊖ var 3) ⊗ var 5) tt

pub overflow_add-result : goal.overflow_add-result
overflow_add-result c = fits (measured c.requires) AHEAD tt

pub returns : goal.returns
returns c = held (measured c.requires) AHEAD tt
