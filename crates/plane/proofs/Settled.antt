-- Settling: |v|² within 4K of K² before gives |v|² within 2K of it after. By the laws of `nearest` alone.
use mathlib.Core.Path.{◌≡◌}
use mathlib.Core.List.{List, [], ◌∷◌}
use lib.Dec.{lit≤}
use lib.IntN.{ℤ, pos, neg_ℤ, ◌+ℤ◌, ◌-ℤ◌, ◌*ℤ◌}
use lib.Signed.{◌≤ℤ◌}
use Rattle.exact.proofs.Polynomial.{Expr, ◌⊕◌, ◌⊖◌, ◌⊗◌, neg, lit, var}
use Rattle.exact.proofs.Order.{pos-≤}
use Rattle.exact.proofs.Certificate.{NonNeg, ◌⊞◌, ◌⊠◌, ◌·◌, num, sq, hyp, eqn, le, le_scaled, named, positive_mul}
use Rattle.exact.proofs.NearestLaws.{nearest_low, nearest_high}
use Rattle.plane.specs.declared.Vec2.{Vec2}
use Rattle.plane.specs.Vector.{norm_sq}
use Rattle.plane.specs.Length.{Near}
use Rattle.plane.specs.Settle.{settle_z}
use Rattle.plane.proofs.SettleSizes.{twice_square_positive}
use Rattle.plane.proofs.Rounded.{error, expanded}

-- the factor 3K² − |v|²
abbrev factor : ℤ → ℤ → ℤ → ℤ
factor x y k = pos 3 *ℤ (k *ℤ k) -ℤ (x *ℤ x +ℤ y *ℤ y)

-- the estimate, with the errors a, b and n = |settled|² as unknowns
module _ (x y k a b n : ℤ) (k5 : pos 5000 ≤ℤ k)
    (vLow : (k *ℤ k -ℤ pos 4 *ℤ k) ≤ℤ (x *ℤ x +ℤ y *ℤ y)) (vHigh : (x *ℤ x +ℤ y *ℤ y) ≤ℤ (k *ℤ k +ℤ pos 4 *ℤ k))
    (aLow : neg_ℤ (pos 2 *ℤ (k *ℤ k)) ≤ℤ a) (aHigh : a ≤ℤ (pos 2 *ℤ (k *ℤ k)))
    (bLow : neg_ℤ (pos 2 *ℤ (k *ℤ k)) ≤ℤ b) (bHigh : b ≤ℤ (pos 2 *ℤ (k *ℤ k)))
    (expansion : pos 4 *ℤ (pos 2 *ℤ (k *ℤ k) *ℤ (pos 2 *ℤ (k *ℤ k))) *ℤ n
    ≡ pos 4 *ℤ (x *ℤ factor x y k *ℤ (x *ℤ factor x y k) +ℤ y *ℤ factor x y k *ℤ (y *ℤ factor x y k))
    +ℤ pos 4 *ℤ (x *ℤ factor x y k *ℤ a +ℤ y *ℤ factor x y k *ℤ b) +ℤ (a *ℤ a +ℤ b *ℤ b)) where
  abbrev ρ : List ℤ
  ρ = x ∷ y ∷ k ∷ a ∷ b ∷ n ∷ []

  abbrev X : Expr
  X = var 0

  abbrev Y : Expr
  Y = var 1

  abbrev K : Expr
  K = var 2

  abbrev A : Expr
  A = var 3

  abbrev B : Expr
  B = var 4

  abbrev N : Expr
  N = var 5

  abbrev VV : Expr
  VV = X ⊗ X ⊕ Y ⊗ Y

  abbrev M : Expr
  M = lit 3 ⊗ (K ⊗ K) ⊖ VV

  abbrev D : Expr
  D = lit 2 ⊗ (K ⊗ K)

  u : NonNeg ρ (K ⊖ lit 5000)
  u = hyp (lit 5000) K k5

  k0 : NonNeg ρ K
  k0 = named K (u ⊞ num 5000) tt

  k2 : NonNeg ρ (K ⊗ K)
  k2 = k0 ⊠ k0

  k4 : NonNeg ρ (K ⊗ K ⊗ (K ⊗ K))
  k4 = k2 ⊠ k2

  short : NonNeg ρ (K ⊗ K ⊕ lit 4 ⊗ K ⊖ VV)
  short = hyp VV (K ⊗ K ⊕ lit 4 ⊗ K) vHigh

  long : NonNeg ρ (VV ⊖ (K ⊗ K ⊖ lit 4 ⊗ K))
  long = hyp (K ⊗ K ⊖ lit 4 ⊗ K) VV vLow

  m0 : NonNeg ρ M
  m0 = named M (short ⊞ 2 · (k0 ⊠ u) ⊞ 9996 · k0) tt

  -- 2D² − a² − b², with D = 2K²
  errors : NonNeg ρ ((D ⊖ A) ⊗ (A ⊖ neg D) ⊕ (D ⊖ B) ⊗ (B ⊖ neg D))
  errors = hyp A D aHigh ⊠ hyp (neg D) A aLow ⊞ hyp B D bHigh ⊠ hyp (neg D) B bLow

  by_expansion : (g : Expr) → NonNeg ρ ((lit 4 ⊗ (X ⊗ M ⊗ (X ⊗ M) ⊕ Y ⊗ M ⊗ (Y ⊗ M)) ⊕ lit 4 ⊗ (X ⊗ M ⊗ A ⊕ Y ⊗ M ⊗ B) ⊕ (A ⊗ A ⊕ B ⊗ B) ⊖ lit 4 ⊗ (D ⊗ D) ⊗ N) ⊗ g)
  by_expansion g = eqn (lit 4 ⊗ (D ⊗ D) ⊗ N) (lit 4 ⊗ (X ⊗ M ⊗ (X ⊗ M) ⊕ Y ⊗ M ⊗ (Y ⊗ M)) ⊕ lit 4 ⊗ (X ⊗ M ⊗ A ⊕ Y ⊗ M ⊗ B) ⊕ (A ⊗ A ⊕ B ⊗ B)) g expansion

  scale_positive : pos 1 ≤ℤ (pos 560 *ℤ (k *ℤ k *ℤ (k *ℤ k) *ℤ k))
  scale_positive =
      let k1 : pos 1 ≤ℤ k = le {ρ = ρ} (lit 1) K (u ⊞ num 4999) tt in
      positive_mul (pos-≤ (lit≤ tt)) (positive_mul (positive_mul (positive_mul k1 k1) (positive_mul k1 k1)) k1)

  -- the cross term goes by (14Kx − 5a)² ≥ 0, and what is left is a polynomial in K − 5000 with positive coefficients
  pub settled_high : n ≤ℤ (k *ℤ k +ℤ pos 2 *ℤ k)
  settled_high =
      le_scaled {ρ = ρ} (lit 560 ⊗ (K ⊗ K ⊗ (K ⊗ K) ⊗ K)) N (K ⊗ K ⊕ lit 2 ⊗ K) scale_positive
      (35 · (k0 ⊠ errors) ⊞ 140 · (k0 ⊠ (sq (VV ⊖ K ⊗ K) ⊠ (m0 ⊞ k2)))
      ⊞ 196 · (m0 ⊠ (k2 ⊠ short)) ⊞ 25 · (m0 ⊠ errors)
      ⊞ m0 ⊠ (sq (lit 14 ⊗ K ⊗ X ⊖ lit 5 ⊗ A) ⊞ sq (lit 14 ⊗ K ⊗ Y ⊖ lit 5 ⊗ B))
      ⊞ long ⊠ (396 · k4 ⊞ 784 · (k2 ⊠ k0))
      ⊞ k4 ⊠ (328 · (u ⊠ u) ⊞ 3276568 · u ⊞ num 8182836864)
      ⊞ by_expansion (lit 35 ⊗ K)) tt

  pub settled_low : (k *ℤ k -ℤ pos 2 *ℤ k) ≤ℤ n
  settled_low =
      le_scaled {ρ = ρ} (lit 560 ⊗ (K ⊗ K ⊗ (K ⊗ K) ⊗ K)) (K ⊗ K ⊖ lit 2 ⊗ K) N scale_positive
      (35 · (k0 ⊠ (sq A ⊞ sq B)) ⊞ 140 · (k0 ⊠ (short ⊠ long ⊠ (m0 ⊞ k2)))
      ⊞ 2240 · (k2 ⊠ k0 ⊠ long)
      ⊞ 196 · (m0 ⊠ (k2 ⊠ short)) ⊞ 25 · (m0 ⊠ errors)
      ⊞ m0 ⊠ (sq (lit 14 ⊗ K ⊗ X ⊕ lit 5 ⊗ A) ⊞ sq (lit 14 ⊗ K ⊗ Y ⊕ lit 5 ⊗ B))
      ⊞ long ⊠ (396 · k4 ⊞ 784 · (k2 ⊠ k0))
      ⊞ k4 ⊠ (328 · (u ⊠ u) ⊞ 3270128 · u ⊞ num 8150627904)
      ⊞ by_expansion (neg (lit 35 ⊗ K))) tt

pub settled_near : (v : Vec2) (k : ℤ) → pos 5000 ≤ℤ k → Near v k (pos 4 *ℤ k) → Near (settle_z v k) k (pos 2 *ℤ k)
settled_near v k k5 s =
    let x = v.x in
    let y = v.y in
    let m = factor x y k in
    let d = pos 2 *ℤ (k *ℤ k) in
    let d1 = twice_square_positive k k5 in
    let r = settle_z v k in
    let a = error d r.x (x *ℤ m) in
    let b = error d r.y (y *ℤ m) in
    let aLow = nearest_low (x *ℤ m) d d1 in
    let aHigh = nearest_high (x *ℤ m) d d1 in
    let bLow = nearest_low (y *ℤ m) d d1 in
    let bHigh = nearest_high (y *ℤ m) d d1 in
    let e = expanded d r.x r.y (x *ℤ m) (y *ℤ m) in
    record {
      low = settled_low x y k a b (norm_sq r) k5 s.low s.high aLow aHigh bLow bHigh e;
      high = settled_high x y k a b (norm_sq r) k5 s.low s.high aLow aHigh bLow bHigh e;
    }
