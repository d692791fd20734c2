-- On an arc the paper's formula is the turn by the half-angle tangent s / (2|r|), which is at most one half.
use mathlib.Core.Path.{◌≡◌, refl, ap₂}
use mathlib.Core.List.{List, [], ◌∷◌}
use Prim.Native.Nat.{zero, suc}
use lib.IntN.{ℤ, pos, negsuc, neg_ℤ, ◌+ℤ◌, ◌-ℤ◌, ◌*ℤ◌}
use Rattle.exact.proofs.Polynomial.{Expr, ◌⊕◌, ◌⊖◌, ◌⊗◌, neg, con, lit, var, ring}
use Rattle.heading.specs.Turn.{drawn_heading, ArcRule}

-- the formula with radius r and normal n, against the tangent p / (2a)
module _ (x y s a : ℤ) where
  abbrev ρ : List ℤ
  ρ = x ∷ y ∷ s ∷ a ∷ []

  abbrev X : Expr
  X = var 0

  abbrev Y : Expr
  Y = var 1

  abbrev S : Expr
  S = var 2

  abbrev R : Expr
  R = var 3

  right_x : x *ℤ (pos 4 *ℤ (a *ℤ a) -ℤ s *ℤ s) +ℤ y *ℤ (pos 4 *ℤ a *ℤ s) ≡ x *ℤ (pos 2 *ℤ a *ℤ (pos 2 *ℤ a) -ℤ s *ℤ s) +ℤ y *ℤ (pos 2 *ℤ s *ℤ (pos 2 *ℤ a))
  right_x = ring ρ (X ⊗ (lit 4 ⊗ (R ⊗ R) ⊖ S ⊗ S) ⊕ Y ⊗ (lit 4 ⊗ R ⊗ S)) (X ⊗ (lit 2 ⊗ R ⊗ (lit 2 ⊗ R) ⊖ S ⊗ S) ⊕ Y ⊗ (lit 2 ⊗ S ⊗ (lit 2 ⊗ R))) tt

  left_x : x *ℤ (pos 4 *ℤ (neg_ℤ a *ℤ neg_ℤ a) -ℤ s *ℤ s) +ℤ y *ℤ negsuc 0 *ℤ (pos 4 *ℤ a *ℤ s) ≡ x *ℤ (pos 2 *ℤ a *ℤ (pos 2 *ℤ a) -ℤ neg_ℤ s *ℤ neg_ℤ s) +ℤ y *ℤ (pos 2 *ℤ neg_ℤ s *ℤ (pos 2 *ℤ a))
  left_x = ring ρ (X ⊗ (lit 4 ⊗ (neg R ⊗ neg R) ⊖ S ⊗ S) ⊕ Y ⊗ con (negsuc 0) ⊗ (lit 4 ⊗ R ⊗ S)) (X ⊗ (lit 2 ⊗ R ⊗ (lit 2 ⊗ R) ⊖ neg S ⊗ neg S) ⊕ Y ⊗ (lit 2 ⊗ neg S ⊗ (lit 2 ⊗ R))) tt

  right_scale : pos 4 *ℤ (a *ℤ a) +ℤ s *ℤ s ≡ pos 2 *ℤ a *ℤ (pos 2 *ℤ a) +ℤ s *ℤ s
  right_scale = ring ρ (lit 4 ⊗ (R ⊗ R) ⊕ S ⊗ S) (lit 2 ⊗ R ⊗ (lit 2 ⊗ R) ⊕ S ⊗ S) tt

  left_scale : pos 4 *ℤ (neg_ℤ a *ℤ neg_ℤ a) +ℤ s *ℤ s ≡ pos 2 *ℤ a *ℤ (pos 2 *ℤ a) +ℤ neg_ℤ s *ℤ neg_ℤ s
  left_scale = ring ρ (lit 4 ⊗ (neg R ⊗ neg R) ⊕ S ⊗ S) (lit 2 ⊗ R ⊗ (lit 2 ⊗ R) ⊕ neg S ⊗ neg S) tt

pub arc_is_tangent : ArcRule
arc_is_tangent g s (pos zero) h = absurd (h refl)
arc_is_tangent g s (pos (suc r)) h =
    let ex = right_x g.x g.y s (pos (suc r)) in
    let ey = right_x g.y (neg_ℤ g.x) s (pos (suc r)) in
    ap₂ drawn_heading (λ i. record { x = ex i; y = ey i }) (right_scale g.x g.y s (pos (suc r)))
arc_is_tangent g s (negsuc r) h =
    let ex = left_x g.x g.y s (pos (suc r)) in
    let ey = left_x g.y (neg_ℤ g.x) s (pos (suc r)) in
    ap₂ drawn_heading (λ i. record { x = ex i; y = ey i }) (left_scale g.x g.y s (pos (suc r)))
