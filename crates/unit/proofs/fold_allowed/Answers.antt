-- `unit::fold_allowed` meets its contract: by the sizes of the vectors, the limit and the wheelbases nothing overflows.
use mathlib.Core.Path.{◌≡◌, sym, ◌∙◌, ap, ap₂, subst}
use mathlib.Core.List.{[], ◌∷◌}
use lib.IntN.{ℤ, pos, ◌*ℤ◌}
use lib.Signed.{le_z}
use Rattle.exact.specs.Size.{Within}
use Rattle.exact.proofs.Polynomial.{Expr, var, lit, ◌⊗◌}
use Rattle.exact.proofs.Machine.{Bounded, none, ◌∷ᵇ◌, fits, held}
use Rattle.exact.proofs.Sizes.{within_add, within_mul}
use Rattle.plane.specs.declared.Vec2.{Vec2}
use Rattle.plane.specs.Vector.{dot}
use Rattle.unit.specs.Coupling.{fold_allowed, Coupled}
use Rattle.unit.proofs.fold_allowed.Goals as goal

abbrev LIMIT : Expr
LIMIT = var 0 ⊗ var 1 ⊗ var 2

abbrev ALONG : Expr
ALONG = lit 1000 ⊗ var 0

-- the limit and the wheelbases, and the product of the vectors
module _ {a d : Vec2} {limit la ld : ℤ} (p : Coupled a d limit la ld) where
  L : Bounded (1000 ∷ 200000 ∷ 200000 ∷ []) (limit ∷ la ∷ ld ∷ [])
  L = p.fold_limit ∷ᵇ p.wheelbase_ahead ∷ᵇ p.wheelbase_behind ∷ᵇ none

  A : {n : ℤ} → n ≡ dot a d → Bounded (80000000000 ∷ []) (n ∷ [])
  A e = subst (Within 80000000000) (sym e) (within_add (within_mul p.ahead.x p.behind.x) (within_mul p.ahead.y p.behind.y)) ∷ᵇ none

pub overflow_mul-result : goal.overflow_mul-result
overflow_mul-result c = fits (L c.requires) (var 0 ⊗ var 1) tt

pub overflow_mul-result-2 : goal.overflow_mul-result-2
overflow_mul-result-2 c = fits (L c.requires) LIMIT tt

pub overflow_mul-result-3 : goal.overflow_mul-result-3
overflow_mul-result-3 c = fits (A c.requires c.dot.ensures) ALONG tt

pub returns : goal.returns
unfolding fold_allowed
returns c = ap₂ le_z (held (L c.requires) LIMIT tt) (held (A c.requires c.dot.ensures) ALONG tt ∙ ap (λ (z : ℤ). pos 1000 *ℤ z) c.dot.ensures)
