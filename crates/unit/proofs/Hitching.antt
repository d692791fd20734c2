-- The hitch: what fixes its sign, and its size.
use mathlib.Core.Path.{◌≡◌, ◌∙◌, sym, ap}
use mathlib.Core.List.{List, [], ◌∷◌}
use Prim.Native.Nat.{ℕ}
use lib.IntN.{ℤ, pos, neg_ℤ, ◌*ℤ◌, *ℤ-zero, *ℤ_comm}
use lib.Signed.{◌≤ℤ◌}
use Rattle.exact.specs.Size.{Within}
use Rattle.exact.specs.Nearest.{nearest_z}
use Rattle.exact.proofs.Polynomial.{Expr, ◌⊕◌, ◌⊖◌, ◌⊗◌, neg, lit, var}
use Rattle.exact.proofs.Ring.{*ℤ-neg-r}
use Rattle.exact.proofs.Order.{by_contradiction}
use Rattle.exact.proofs.Certificate.{NonNeg, ◌⊞◌, ◌⊠◌, ◌·◌, num, hyp, never}
use Rattle.exact.proofs.Sizes.{within, ≤-size, ≥-size}
use Rattle.exact.proofs.NearestLaws.{nearest_odd, nearest_low, nearest_high, nearest_multiple}
use Rattle.plane.specs.declared.Vec2.{Vec2}
use Rattle.unit.specs.Turn.{Wheelbase, UnitSized}
use Rattle.unit.specs.Coupling.{hitch_offset, opposite, HitchRule}
use Rattle.unit.proofs.UnitSizes.{wheelbase_positive}

-- a hitch behind the axle lies opposite the one ahead of it
hitch_behind : (d : Vec2) (h l : ℤ) → pos 1 ≤ℤ l → hitch_offset d (neg_ℤ h) l ≡ opposite (hitch_offset d h l)
unfolding hitch_offset
hitch_behind d h l l1 =
    let other : (x : ℤ) → nearest_z (x *ℤ neg_ℤ h) l ≡ neg_ℤ (nearest_z (x *ℤ h) l) =
    λ x. ap (λ (n : ℤ). nearest_z n l) (*ℤ-neg-r x h) ∙ nearest_odd (x *ℤ h) l l1 in
    λ i. record { x = other d.x i; y = other d.y i }

-- L ahead of the rear axle lies the front point
pub hitch_at_front : (d : Vec2) (l : ℤ) → pos 1 ≤ℤ l → hitch_offset d l l ≡ d
unfolding hitch_offset
hitch_at_front d l l1 =
    let whole : (x : ℤ) → nearest_z (x *ℤ l) l ≡ x = λ x. ap (λ (n : ℤ). nearest_z n l) (*ℤ_comm x l) ∙ nearest_multiple x l l1 in
    λ i. record { x = whole d.x i; y = whole d.y i }

-- at no distance lies the axle itself
hitch_at_axle : (d : Vec2) (l : ℤ) → pos 1 ≤ℤ l → hitch_offset d (pos 0) l ≡ record { x = pos 0; y = pos 0 }
unfolding hitch_offset
hitch_at_axle d l l1 =
    let none : (x : ℤ) → nearest_z (x *ℤ pos 0) l ≡ pos 0 =
    λ x. ap (λ (n : ℤ). nearest_z n l) (*ℤ-zero x ∙ sym (*ℤ-zero l)) ∙ nearest_multiple (pos 0) l l1 in
    λ i. record { x = none d.x i; y = none d.y i }

pub hitch_rule_lem : HitchRule
hitch_rule_lem = record {
  front = λ d l p. hitch_at_front d l p.positive;
  axle = λ d l p. hitch_at_axle d l p.positive;
  behind = λ d h l p. hitch_behind d h l p.positive;
}

-- |h| ≤ L, so nearest h × x / L is no larger than x may be
module _ (b : ℕ) (x h l : ℤ) (l1 : pos 1 ≤ℤ l) (low : neg_ℤ l ≤ℤ h) (high : h ≤ℤ l) (size : Within b x) where
  abbrev ρ : List ℤ
  ρ = x ∷ h ∷ l ∷ pos b ∷ nearest_z (x *ℤ h) l ∷ []

  abbrev X : Expr
  X = var 0

  abbrev H : Expr
  H = var 1

  abbrev L : Expr
  L = var 2

  abbrev B : Expr
  B = var 3

  abbrev Q : Expr
  Q = var 4

  positive : NonNeg ρ (L ⊖ lit 1)
  positive = hyp (lit 1) L l1

  above : NonNeg ρ (B ⊖ X)
  above = hyp X B (≤-size size)

  below : NonNeg ρ (X ⊖ neg B)
  below = hyp (neg B) X (≥-size size)

  ahead : NonNeg ρ (H ⊖ neg L)
  ahead = hyp (neg L) H low

  behind : NonNeg ρ (L ⊖ H)
  behind = hyp H L high

  pub share_within : Within b (nearest_z (x *ℤ h) l)
  share_within =
      within
      (by_contradiction (λ g.
      let G = hyp {ρ = ρ} (Q ⊕ lit 1) (neg B) g in
      let E = hyp {ρ = ρ} (neg L) (lit 2 ⊗ (L ⊗ Q ⊖ X ⊗ H)) (nearest_low (x *ℤ h) l l1) in
      never 0 (E ⊞ 2 · ((positive ⊞ num 1) ⊠ G) ⊞ below ⊠ ahead ⊞ above ⊠ behind ⊞ positive) tt))
      (by_contradiction (λ g.
      let G = hyp {ρ = ρ} (B ⊕ lit 1) Q g in
      let E = hyp {ρ = ρ} (lit 2 ⊗ (L ⊗ Q ⊖ X ⊗ H)) L (nearest_high (x *ℤ h) l l1) in
      never 0 (E ⊞ 2 · ((positive ⊞ num 1) ⊠ G) ⊞ above ⊠ ahead ⊞ below ⊠ behind ⊞ positive) tt))

-- a hitch lies no farther from the axle, by coordinate, than the front point may
pub hitch_sized : (d : Vec2) (h l : ℤ) → Wheelbase l → neg_ℤ l ≤ℤ h → h ≤ℤ l → UnitSized d → UnitSized (hitch_offset d h l)
unfolding hitch_offset
hitch_sized d h l w low high s =
    let l1 = wheelbase_positive w in
    record { x = share_within 200000 d.x h l l1 low high s.x; y = share_within 200000 d.y h l l1 low high s.y }
