-- `points::offset_from` meets its contract: by the sizes of the vector and the measures nothing overflows.
use mathlib.Core.Path.{◌≡◌, sym, ◌∙◌, ap₂, subst}
use mathlib.Core.List.{[], ◌∷◌}
use borrow.Author.Rules.{rules}
use Rattle.exact.specs.Nearest.{Divisor}
use Rattle.exact.proofs.Polynomial.{Expr, var, neg, ◌⊕◌, ◌⊖◌, ◌⊗◌, ◌⊜◌, ring4}
use Rattle.exact.proofs.Machine.{Bounded, none, ◌∷ᵇ◌, reread, fits, held}
use Rattle.plane.specs.Vector.{nearest_v}
use Rattle.unit.proofs.UnitSizes.{near_sized, wheelbase_positive}
use Rattle.points.proofs.offset_from.Goals as goal
use Rattle.points.proofs.offset_from.Goals.{Start}

-- the vector, then how far ahead and to the right
S : (c : Start) → let a = c.args in Bounded (200000 ∷ 200000 ∷ 50000 ∷ 20000 ∷ []) (a.e.d.x ∷ a.e.d.y ∷ a.along ∷ a.side ∷ [])
S c =
    let p = c.requires in
    let d = near_sized p.end.wheelbase p.end.vector in
    d.x ∷ᵇ d.y ∷ᵇ p.along ∷ᵇ p.side ∷ᵇ none

abbrev X : Expr
X = var 0 ⊗ var 2 ⊕ var 1 ⊗ var 3

abbrev Y : Expr
Y = var 1 ⊗ var 2 ⊖ var 0 ⊗ var 3

pub overflow_mul-sum : goal.overflow_mul-sum
overflow_mul-sum c = fits (S (goal.at.overflow_mul-sum c).Start) (var 0 ⊗ var 2) tt

pub overflow_mul-sum-2 : goal.overflow_mul-sum-2
overflow_mul-sum-2 c = fits (S (goal.at.overflow_mul-sum-2 c).Start) (var 1 ⊗ var 3) tt

pub overflow_add-sum : goal.overflow_add-sum
overflow_add-sum c = fits (S (goal.at.overflow_add-sum c).Start) X tt

pub overflow_mul-sum-3 : goal.overflow_mul-sum-3
overflow_mul-sum-3 c = fits (S (goal.at.overflow_mul-sum-3 c).Start) (var 1 ⊗ var 2) tt

pub overflow_mul-sum-4 : goal.overflow_mul-sum-4
overflow_mul-sum-4 c = fits (S (goal.at.overflow_mul-sum-4 c).Start) (var 0 ⊗ var 3) tt

pub overflow_sub-sum : goal.overflow_sub-sum
overflow_sub-sum c = fits (S (goal.at.overflow_sub-sum c).Start) Y tt

pub nearest_vector-requires : goal.nearest_vector-requires
nearest_vector-requires c =
    let l : reread c.args.e.wheelbase ≡ c.args.e.wheelbase = search rules in
    subst Divisor (sym l) (record { positive = wheelbase_positive c.requires.end.wheelbase })

pub returns : goal.returns
returns c =
    let s = (goal.at.returns c).Start in
    let a = c.args in
    let l : reread a.e.wheelbase ≡ a.e.wheelbase = search rules in
    let ex = held (S s) X tt in
    let ey = held (S s) Y tt ∙ ring4 a.e.d.x a.e.d.y a.along a.side (λ x y a s. y ⊗ a ⊖ x ⊗ s ⊜ y ⊗ a ⊕ neg x ⊗ s) tt in
    c.nearest_vector.ensures ∙ ap₂ nearest_v (λ i. record { x = ex i; y = ey i }) l
