-- Rounding an exact turn: where |w|² = q²|d|² and |d|² is within 2K of K², the rounded w / q is within 4K of it. By the laws of `nearest` alone.
use mathlib.Core.Path.{◌≡◌}
use mathlib.Core.List.{List, [], ◌∷◌}
use lib.Dec.{lit≤}
use lib.IntN.{ℤ, pos, neg_ℤ, ◌+ℤ◌, ◌-ℤ◌, ◌*ℤ◌}
use lib.Signed.{◌≤ℤ◌}
use Rattle.exact.proofs.Polynomial.{Expr, ◌⊕◌, ◌⊖◌, ◌⊗◌, neg, lit, var, ring}
use Rattle.exact.proofs.Order.{pos-≤}
use Rattle.exact.proofs.Certificate.{NonNeg, ◌⊞◌, ◌⊠◌, ◌·◌, num, sq, hyp, eqn, le, le_scaled, named, positive_mul}
use Rattle.exact.proofs.NearestLaws.{nearest_low, nearest_high}
use Rattle.plane.specs.declared.Vec2.{Vec2}
use Rattle.plane.specs.Vector.{norm_sq, nearest_v}
use Rattle.plane.specs.Length.{Near}
use Rattle.plane.specs.Drawn.{Turned}

-- twice the error of the quotient e for w / q, times q
abbrev pub error : ℤ → ℤ → ℤ → ℤ
error q e w = pos 2 *ℤ (q *ℤ e -ℤ w)

-- 4q²|e|² = 4|w|² + 4 w·a + |a|², where a is the error
pub expanded : (q ex ey wx wy : ℤ) →
    pos 4 *ℤ (q *ℤ q) *ℤ (ex *ℤ ex +ℤ ey *ℤ ey)
    ≡ pos 4 *ℤ (wx *ℤ wx +ℤ wy *ℤ wy) +ℤ pos 4 *ℤ (wx *ℤ error q ex wx +ℤ wy *ℤ error q ey wy) +ℤ (error q ex wx *ℤ error q ex wx +ℤ error q ey wy *ℤ error q ey wy)
expanded q ex ey wx wy =
    let Q = var 0 in
    let A = lit 2 ⊗ (Q ⊗ var 1 ⊖ var 3) in
    let B = lit 2 ⊗ (Q ⊗ var 2 ⊖ var 4) in
    ring (q ∷ ex ∷ ey ∷ wx ∷ wy ∷ []) (lit 4 ⊗ (Q ⊗ Q) ⊗ (var 1 ⊗ var 1 ⊕ var 2 ⊗ var 2))
    (lit 4 ⊗ (var 3 ⊗ var 3 ⊕ var 4 ⊗ var 4) ⊕ lit 4 ⊗ (var 3 ⊗ A ⊕ var 4 ⊗ B) ⊕ (A ⊗ A ⊕ B ⊗ B)) tt

-- the estimate, with the errors a, b and e = |e|² as unknowns
module _ (wx wy a b q k dd e : ℤ) (q1 : pos 1 ≤ℤ q) (k5 : pos 5000 ≤ℤ k)
    (dLow : (k *ℤ k -ℤ pos 2 *ℤ k) ≤ℤ dd) (dHigh : dd ≤ℤ (k *ℤ k +ℤ pos 2 *ℤ k))
    (aLow : neg_ℤ q ≤ℤ a) (aHigh : a ≤ℤ q) (bLow : neg_ℤ q ≤ℤ b) (bHigh : b ≤ℤ q)
    (exact : wx *ℤ wx +ℤ wy *ℤ wy ≡ q *ℤ q *ℤ dd)
    (expansion : pos 4 *ℤ (q *ℤ q) *ℤ e ≡ pos 4 *ℤ (wx *ℤ wx +ℤ wy *ℤ wy) +ℤ pos 4 *ℤ (wx *ℤ a +ℤ wy *ℤ b) +ℤ (a *ℤ a +ℤ b *ℤ b)) where
  abbrev ρ : List ℤ
  ρ = wx ∷ wy ∷ a ∷ b ∷ q ∷ k ∷ dd ∷ e ∷ []

  abbrev X : Expr
  X = var 0

  abbrev Y : Expr
  Y = var 1

  abbrev A : Expr
  A = var 2

  abbrev B : Expr
  B = var 3

  abbrev Q : Expr
  Q = var 4

  abbrev K : Expr
  K = var 5

  abbrev D : Expr
  D = var 6

  abbrev E : Expr
  E = var 7

  u : NonNeg ρ (K ⊖ lit 5000)
  u = hyp (lit 5000) K k5

  k0 : NonNeg ρ K
  k0 = named K (u ⊞ num 5000) tt

  short : NonNeg ρ (K ⊗ K ⊕ lit 2 ⊗ K ⊖ D)
  short = hyp D (K ⊗ K ⊕ lit 2 ⊗ K) dHigh

  long : NonNeg ρ (D ⊖ (K ⊗ K ⊖ lit 2 ⊗ K))
  long = hyp (K ⊗ K ⊖ lit 2 ⊗ K) D dLow

  -- 2q² − a² − b²
  errors : NonNeg ρ ((Q ⊖ A) ⊗ (A ⊖ neg Q) ⊕ (Q ⊖ B) ⊗ (B ⊖ neg Q))
  errors = hyp A Q aHigh ⊠ hyp (neg Q) A aLow ⊞ hyp B Q bHigh ⊠ hyp (neg Q) B bLow

  -- the two equations, times any polynomial
  by_expansion : (g : Expr) → NonNeg ρ ((lit 4 ⊗ (X ⊗ X ⊕ Y ⊗ Y) ⊕ lit 4 ⊗ (X ⊗ A ⊕ Y ⊗ B) ⊕ (A ⊗ A ⊕ B ⊗ B) ⊖ lit 4 ⊗ (Q ⊗ Q) ⊗ E) ⊗ g)
  by_expansion g = eqn (lit 4 ⊗ (Q ⊗ Q) ⊗ E) (lit 4 ⊗ (X ⊗ X ⊕ Y ⊗ Y) ⊕ lit 4 ⊗ (X ⊗ A ⊕ Y ⊗ B) ⊕ (A ⊗ A ⊕ B ⊗ B)) g expansion

  by_exact : (g : Expr) → NonNeg ρ ((Q ⊗ Q ⊗ D ⊖ (X ⊗ X ⊕ Y ⊗ Y)) ⊗ g)
  by_exact g = eqn (X ⊗ X ⊕ Y ⊗ Y) (Q ⊗ Q ⊗ D) g exact

  scale_positive : pos 1 ≤ℤ (pos 140 *ℤ k *ℤ (q *ℤ q))
  scale_positive = positive_mul (positive_mul (pos-≤ (lit≤ tt)) (le {ρ = ρ} (lit 1) K (u ⊞ num 4999) tt)) (positive_mul q1 q1)

  -- the cross term goes by (10w − 7Ka)² ≥ 0, and what is left is a polynomial in K − 5000 with positive coefficients
  pub rounded_high : e ≤ℤ (k *ℤ k +ℤ pos 4 *ℤ k)
  rounded_high =
      le_scaled {ρ = ρ} (lit 140 ⊗ K ⊗ (Q ⊗ Q)) E (K ⊗ K ⊕ lit 4 ⊗ K) scale_positive
      (140 · (k0 ⊠ sq Q ⊠ short) ⊞ 100 · (sq Q ⊠ short) ⊞ (49 · (k0 ⊠ k0) ⊞ 35 · k0) ⊠ errors
      ⊞ sq (lit 10 ⊗ X ⊖ lit 7 ⊗ K ⊗ A) ⊞ sq (lit 10 ⊗ Y ⊖ lit 7 ⊗ K ⊗ B)
      ⊞ sq Q ⊠ (k0 ⊠ (82 · u ⊞ num 409730))
      ⊞ by_expansion (lit 35 ⊗ K) ⊞ by_exact (lit 140 ⊗ K ⊕ lit 100)) tt

  pub rounded_low : (k *ℤ k -ℤ pos 4 *ℤ k) ≤ℤ e
  rounded_low =
      le_scaled {ρ = ρ} (lit 140 ⊗ K ⊗ (Q ⊗ Q)) (K ⊗ K ⊖ lit 4 ⊗ K) E scale_positive
      (140 · (k0 ⊠ sq Q ⊠ long) ⊞ 100 · (sq Q ⊠ short) ⊞ 49 · (k0 ⊠ k0) ⊠ errors ⊞ 35 · (k0 ⊠ (sq A ⊞ sq B))
      ⊞ sq (lit 10 ⊗ X ⊕ lit 7 ⊗ K ⊗ A) ⊞ sq (lit 10 ⊗ Y ⊕ lit 7 ⊗ K ⊗ B)
      ⊞ sq Q ⊠ (k0 ⊠ (82 · u ⊞ num 409800))
      ⊞ by_expansion (neg (lit 35 ⊗ K)) ⊞ by_exact (neg (lit 140 ⊗ K) ⊕ lit 100)) tt

pub rounded_near : (w : Vec2) (q : ℤ) (d : Vec2) (k : ℤ) → Turned w q d k → Near (nearest_v w q) k (pos 4 *ℤ k)
rounded_near w q d k t =
    let e = nearest_v w q in
    let q1 = t.divisor.positive in
    let a = error q e.x w.x in
    let b = error q e.y w.y in
    let aLow = nearest_low w.x q q1 in
    let aHigh = nearest_high w.x q q1 in
    let bLow = nearest_low w.y q q1 in
    let bHigh = nearest_high w.y q q1 in
    let x = expanded q e.x e.y w.x w.y in
    record {
      low = rounded_low w.x w.y a b q k (norm_sq d) (norm_sq e) q1 t.nominal.least t.near.low t.near.high aLow aHigh bLow bHigh t.exact x;
      high = rounded_high w.x w.y a b q k (norm_sq d) (norm_sq e) q1 t.nominal.least t.near.low t.near.high aLow aHigh bLow bHigh t.exact x;
    }
