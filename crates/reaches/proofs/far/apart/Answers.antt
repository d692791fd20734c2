-- `reaches::far::apart` meets its contract: by the sizes nothing overflows.
use mathlib.Core.Path.{◌≡◌, sym, ◌∙◌, ap, ap₂, subst}
use mathlib.Core.List.{[], ◌∷◌}
use lib.IntN.{ℤ, pos, nat_abs, ◌+ℤ◌, ◌-ℤ◌}
use Rattle.exact.specs.Size.{Within}
use Rattle.exact.proofs.Polynomial.{var, ◌⊖◌, ◌⊕◌}
use Rattle.exact.proofs.Sizes.{within_sub}
use Rattle.exact.proofs.Machine.{Bounded, none, ◌∷ᵇ◌, fits, held}
use Rattle.plane.specs.declared.Vec2.{Vec2}
use Rattle.reaches.specs.Far.{BothSized}
use Rattle.reaches.proofs.far.apart.Goals as goal
use Rattle.reaches.proofs.far.apart.Goals.{After-abs-2}

-- the coordinates
bounded : {a b : Vec2} → BothSized a b → Bounded (160000000 ∷ 160000000 ∷ 160000000 ∷ 160000000 ∷ []) (a.x ∷ a.y ∷ b.x ∷ b.y ∷ [])
bounded r = r.first.x ∷ᵇ r.first.y ∷ᵇ r.second.x ∷ᵇ r.second.y ∷ᵇ none

-- both sizes
module _ (c : After-abs-2) where
  east : c.abs.result ≡ pos (nat_abs (c.args.b.x -ℤ c.args.a.x))
  east = c.abs.ensures.value ∙ ap (λ (z : ℤ). pos (nat_abs z)) (held (bounded c.requires) (var 2 ⊖ var 0) tt)

  north : c.abs-2.result ≡ pos (nat_abs (c.args.b.y -ℤ c.args.a.y))
  north = c.abs-2.ensures.value ∙ ap (λ (z : ℤ). pos (nat_abs z)) (held (bounded c.requires) (var 3 ⊖ var 1) tt)

  both : Bounded (320000000 ∷ 320000000 ∷ []) (c.abs.result ∷ c.abs-2.result ∷ [])
  both =
      let r = c.requires in
      subst (Within 320000000) (sym east) (record { size = (within_sub r.second.x r.first.x).size })
      ∷ᵇ subst (Within 320000000) (sym north) (record { size = (within_sub r.second.y r.first.y).size }) ∷ᵇ none

pub overflow_add-result : goal.overflow_add-result
overflow_add-result c = fits (both c) (var 0 ⊕ var 1) tt

pub returns : goal.returns
returns c = held (both c) (var 0 ⊕ var 1) tt ∙ ap₂ ◌+ℤ◌ (east c) (north c)
