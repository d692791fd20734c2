-- A drawn vector lies along the exact turn: at most two ticks from its line, and on its side. By the laws of `nearest` alone.
use mathlib.Core.Path.{◌≡◌}
use mathlib.Core.List.{List, [], ◌∷◌}
use lib.Dec.{lit≤}
use lib.IntN.{ℤ, pos, neg_ℤ, ◌+ℤ◌, ◌-ℤ◌, ◌*ℤ◌}
use lib.Signed.{◌≤ℤ◌}
use Rattle.exact.proofs.Polynomial.{Expr, ◌⊕◌, ◌⊖◌, ◌⊗◌, neg, lit, var}
use Rattle.exact.proofs.Order.{pos-≤}
use Rattle.exact.proofs.Certificate.{NonNeg, ◌⊞◌, ◌⊠◌, ◌·◌, num, sq, hyp, eqn, le, le_scaled, named, positive_mul}

-- (wx, wy): the exact turn times q; a, b and c, g: the scaled errors of the two roundings; μ = 3K² − |e|²; dd = |d|²; x: the product in question
module _ (wx wy a b c g q k μ x dd : ℤ) (q1 : pos 1 ≤ℤ q) (k5 : pos 5000 ≤ℤ k)
    (μHigh : μ ≤ℤ (pos 2 *ℤ (k *ℤ k) +ℤ pos 4 *ℤ k)) (μLow : (pos 2 *ℤ (k *ℤ k) -ℤ pos 4 *ℤ k) ≤ℤ μ)
    (aLow : neg_ℤ q ≤ℤ a) (aHigh : a ≤ℤ q) (bLow : neg_ℤ q ≤ℤ b) (bHigh : b ≤ℤ q)
    (cLow : neg_ℤ (pos 2 *ℤ (k *ℤ k)) ≤ℤ c) (cHigh : c ≤ℤ (pos 2 *ℤ (k *ℤ k)))
    (gLow : neg_ℤ (pos 2 *ℤ (k *ℤ k)) ≤ℤ g) (gHigh : g ≤ℤ (pos 2 *ℤ (k *ℤ k))) where
  abbrev ρ : List ℤ
  ρ = wx ∷ wy ∷ a ∷ b ∷ c ∷ g ∷ q ∷ k ∷ μ ∷ x ∷ dd ∷ []

  abbrev W : Expr
  W = var 0

  abbrev Z : Expr
  Z = var 1

  abbrev A : Expr
  A = var 2

  abbrev B : Expr
  B = var 3

  abbrev C : Expr
  C = var 4

  abbrev G : Expr
  G = var 5

  abbrev Q : Expr
  Q = var 6

  abbrev K : Expr
  K = var 7

  abbrev U : Expr
  U = var 8

  abbrev X : Expr
  X = var 9

  abbrev DD : Expr
  DD = var 10

  abbrev D : Expr
  D = lit 2 ⊗ (K ⊗ K)

  abbrev WW : Expr
  WW = W ⊗ W ⊕ Z ⊗ Z

  u : NonNeg ρ (K ⊖ lit 5000)
  u = hyp (lit 5000) K k5

  k0 : NonNeg ρ K
  k0 = named K (u ⊞ num 5000) tt

  k2 : NonNeg ρ (K ⊗ K)
  k2 = k0 ⊠ k0

  ww : NonNeg ρ WW
  ww = sq W ⊞ sq Z

  -- 2q² − a² − b² and 2D² − c² − g²
  first_errors : NonNeg ρ ((Q ⊖ A) ⊗ (A ⊖ neg Q) ⊕ (Q ⊖ B) ⊗ (B ⊖ neg Q))
  first_errors = hyp A Q aHigh ⊠ hyp (neg Q) A aLow ⊞ hyp B Q bHigh ⊠ hyp (neg Q) B bLow

  second_errors : NonNeg ρ ((D ⊖ C) ⊗ (C ⊖ neg D) ⊕ (D ⊖ G) ⊗ (G ⊖ neg D))
  second_errors = hyp C D cHigh ⊠ hyp (neg D) C cLow ⊞ hyp G D gHigh ⊠ hyp (neg D) G gLow

  -- 0 ≤ μ, and μ² ≤ 3D²
  μ-low : NonNeg ρ (U ⊖ (D ⊖ lit 4 ⊗ K))
  μ-low = hyp (D ⊖ lit 4 ⊗ K) U μLow

  μ-high : NonNeg ρ (D ⊕ lit 4 ⊗ K ⊖ U)
  μ-high = hyp U (D ⊕ lit 4 ⊗ K) μHigh

  μ0 : NonNeg ρ U
  μ0 = named U (μ-low ⊞ 2 · (k0 ⊠ u) ⊞ 9996 · k0) tt

  μ-square : NonNeg ρ (lit 3 ⊗ (D ⊗ D) ⊖ U ⊗ U)
  μ-square =
      named (lit 3 ⊗ (D ⊗ D) ⊖ U ⊗ U)
      (μ-high ⊠ (μ0 ⊞ 2 · k2 ⊞ 4 · k0) ⊞ k2 ⊠ (8 · (u ⊠ u) ⊞ 79984 · u ⊞ num 199919984)) tt

  D-positive : pos 1 ≤ℤ (pos 2 *ℤ (k *ℤ k))
  D-positive =
      let k1 : pos 1 ≤ℤ k = le {ρ = ρ} (lit 1) K (u ⊞ num 4999) tt in
      positive_mul (pos-≤ (lit≤ tt)) (positive_mul k1 k1)

  -- across: 2qD·x = μ(a × w) + q(c × w), and (y + z)² ≤ 2y² + 2z²
  pub across-≤ : pos 2 *ℤ q *ℤ (pos 2 *ℤ (k *ℤ k)) *ℤ x ≡ μ *ℤ (a *ℤ wy -ℤ b *ℤ wx) +ℤ q *ℤ (c *ℤ wy -ℤ g *ℤ wx) → (x *ℤ x) ≤ℤ (pos 4 *ℤ (wx *ℤ wx +ℤ wy *ℤ wy))
  across-≤ e =
      let H = U ⊗ (A ⊗ Z ⊖ B ⊗ W) in
      let J = Q ⊗ (C ⊗ Z ⊖ G ⊗ W) in
      let S = lit 2 ⊗ Q ⊗ D ⊗ X in
      le_scaled {ρ = ρ} (lit 4 ⊗ (Q ⊗ Q) ⊗ (D ⊗ D)) (X ⊗ X) (lit 4 ⊗ WW)
      (positive_mul (positive_mul (pos-≤ (lit≤ tt)) (positive_mul q1 q1)) (positive_mul D-positive D-positive))
      (4 · (sq Q ⊠ ww ⊠ μ-square) ⊞ 2 · (sq U ⊠ first_errors ⊠ ww) ⊞ 2 · (sq Q ⊠ second_errors ⊠ ww)
      ⊞ 2 · sq (U ⊗ (A ⊗ W ⊕ B ⊗ Z)) ⊞ 2 · sq (Q ⊗ (C ⊗ W ⊕ G ⊗ Z)) ⊞ sq (H ⊖ J)
      ⊞ eqn S (H ⊕ J) (S ⊕ (H ⊕ J)) e) tt

  -- along: 2qD·x = μ(2|w|² + a·w) + q(c·w), with |w|² = q²|d|² large
  pub along_positive : (k *ℤ k -ℤ pos 2 *ℤ k) ≤ℤ dd → wx *ℤ wx +ℤ wy *ℤ wy ≡ q *ℤ q *ℤ dd
      → pos 2 *ℤ q *ℤ (pos 2 *ℤ (k *ℤ k)) *ℤ x ≡ μ *ℤ (pos 2 *ℤ (wx *ℤ wx +ℤ wy *ℤ wy) +ℤ (a *ℤ wx +ℤ b *ℤ wy)) +ℤ q *ℤ (c *ℤ wx +ℤ g *ℤ wy)
      → pos 1 ≤ℤ x
  along_positive dLow exact e =
      let long = hyp {ρ = ρ} (K ⊗ K ⊖ lit 2 ⊗ K) DD dLow in
      let q0 = hyp {ρ = ρ} (lit 1) Q q1 in
      let d0 = 2 · k2 in
      let S = lit 2 ⊗ Q ⊗ D ⊗ X in
      let R = U ⊗ (lit 2 ⊗ WW ⊕ (A ⊗ W ⊕ B ⊗ Z)) ⊕ Q ⊗ (C ⊗ W ⊕ G ⊗ Z) in
      le_scaled {ρ = ρ} (lit 2000 ⊗ D ⊗ (lit 2 ⊗ Q ⊗ D)) (lit 1) X
      (positive_mul (positive_mul (pos-≤ (lit≤ tt)) D-positive) (positive_mul (positive_mul (pos-≤ (lit≤ tt)) q1) D-positive))
      (d0 ⊠ μ0 ⊠ (sq (W ⊕ lit 1000 ⊗ A) ⊞ sq (Z ⊕ lit 1000 ⊗ B) ⊞ 1000000 · first_errors)
      ⊞ sq (D ⊗ W ⊕ lit 1000 ⊗ Q ⊗ C) ⊞ sq (D ⊗ Z ⊕ lit 1000 ⊗ Q ⊗ G) ⊞ 1000000 · (sq Q ⊠ second_errors)
      ⊞ 3999 · (ww ⊠ d0 ⊠ μ-low) ⊞ 2000000 · (sq Q ⊠ d0 ⊠ μ-high) ⊞ 4000 · (sq D ⊠ ((q0 ⊞ num 1) ⊠ q0))
      ⊞ sq Q ⊠ long ⊠ d0 ⊠ (k0 ⊠ (7996 · u ⊞ num 39964004))
      ⊞ sq Q ⊠ d0 ⊠ k0 ⊠ (7996 · (u ⊠ u ⊠ u) ⊞ 119908012 · (u ⊠ u) ⊞ 599372143992 · u ⊞ num 998660411960000)
      ⊞ eqn S R (neg (lit 2000 ⊗ D)) e
      ⊞ eqn WW (Q ⊗ Q ⊗ DD) (neg (D ⊗ (lit 3998 ⊗ D ⊖ lit 15996 ⊗ K))) exact) tt
