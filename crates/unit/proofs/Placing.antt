-- The vector at the start: |g|² within 2N of N² gives |nearest L × g / N|² within 2L of L². By the laws of `nearest` alone.
use mathlib.Core.Path.{◌≡◌}
use mathlib.Core.List.{List, [], ◌∷◌}
use lib.Dec.{lit≤}
use lib.IntN.{ℤ, pos, neg_ℤ, ◌+ℤ◌, ◌-ℤ◌, ◌*ℤ◌}
use lib.Signed.{◌≤ℤ◌}
use Rattle.exact.proofs.Polynomial.{Expr, ◌⊕◌, ◌⊖◌, ◌⊗◌, neg, lit, var}
use Rattle.exact.proofs.Order.{pos-≤}
use Rattle.exact.proofs.Certificate.{NonNeg, ◌⊞◌, ◌⊠◌, ◌·◌, num, sq, hyp, eqn, le_scaled, named}
use Rattle.exact.proofs.NearestLaws.{nearest_low, nearest_high}
use Rattle.plane.specs.Length.{heading_length}
use Rattle.plane.specs.Vector.{norm_sq}
use Rattle.plane.proofs.Rounded.{error, expanded}
use Rattle.unit.specs.Turn.{placed_by, Wheelbase, PlacedRule}

-- the estimate, with g = (x, y), the errors a, b and n = |placed|² as unknowns
module _ (l x y a b n : ℤ) (w : Wheelbase l)
    (gLow : (heading_length *ℤ heading_length -ℤ pos 2000000) ≤ℤ (x *ℤ x +ℤ y *ℤ y)) (gHigh : (x *ℤ x +ℤ y *ℤ y) ≤ℤ (heading_length *ℤ heading_length +ℤ pos 2000000))
    (aLow : neg_ℤ heading_length ≤ℤ a) (aHigh : a ≤ℤ heading_length) (bLow : neg_ℤ heading_length ≤ℤ b) (bHigh : b ≤ℤ heading_length)
    (expansion : pos 4 *ℤ (heading_length *ℤ heading_length) *ℤ n
    ≡ pos 4 *ℤ (x *ℤ l *ℤ (x *ℤ l) +ℤ y *ℤ l *ℤ (y *ℤ l)) +ℤ pos 4 *ℤ (x *ℤ l *ℤ a +ℤ y *ℤ l *ℤ b) +ℤ (a *ℤ a +ℤ b *ℤ b)) where
  abbrev ρ : List ℤ
  ρ = l ∷ x ∷ y ∷ a ∷ b ∷ n ∷ []

  abbrev L : Expr
  L = var 0

  abbrev X : Expr
  X = var 1

  abbrev Y : Expr
  Y = var 2

  abbrev A : Expr
  A = var 3

  abbrev B : Expr
  B = var 4

  abbrev N : Expr
  N = lit 1000000

  abbrev G : Expr
  G = X ⊗ X ⊕ Y ⊗ Y

  u : NonNeg ρ (L ⊖ lit 5000)
  u = hyp (lit 5000) L w.least

  l0 : NonNeg ρ L
  l0 = named L (u ⊞ num 5000) tt

  top : NonNeg ρ (lit 200000 ⊖ L)
  top = hyp L (lit 200000) w.most

  short : NonNeg ρ (N ⊗ N ⊕ lit 2000000 ⊖ G)
  short = hyp G (N ⊗ N ⊕ lit 2000000) gHigh

  long : NonNeg ρ (G ⊖ (N ⊗ N ⊖ lit 2000000))
  long = hyp (N ⊗ N ⊖ lit 2000000) G gLow

  -- 2N² − a² − b²
  errors : NonNeg ρ ((N ⊖ A) ⊗ (A ⊖ neg N) ⊕ (N ⊖ B) ⊗ (B ⊖ neg N))
  errors = hyp A N aHigh ⊠ hyp (neg N) A aLow ⊞ hyp B N bHigh ⊠ hyp (neg N) B bLow

  by_expansion : (g : Expr) → NonNeg ρ ((lit 4 ⊗ (X ⊗ L ⊗ (X ⊗ L) ⊕ Y ⊗ L ⊗ (Y ⊗ L)) ⊕ lit 4 ⊗ (X ⊗ L ⊗ A ⊕ Y ⊗ L ⊗ B) ⊕ (A ⊗ A ⊕ B ⊗ B) ⊖ lit 4 ⊗ (N ⊗ N) ⊗ var 5) ⊗ g)
  by_expansion g = eqn (lit 4 ⊗ (N ⊗ N) ⊗ var 5) (lit 4 ⊗ (X ⊗ L ⊗ (X ⊗ L) ⊕ Y ⊗ L ⊗ (Y ⊗ L)) ⊕ lit 4 ⊗ (X ⊗ L ⊗ A ⊕ Y ⊗ L ⊗ B) ⊕ (A ⊗ A ⊕ B ⊗ B)) g expansion

  -- the cross term goes by (10g − 7a)² ≥ 0
  placed_high : n ≤ℤ (l *ℤ l +ℤ pos 2 *ℤ l)
  placed_high =
      le_scaled {ρ = ρ} (lit 140 ⊗ (N ⊗ N)) (var 5) (L ⊗ L ⊕ lit 2 ⊗ L) (pos-≤ (lit≤ tt))
      (140 · (l0 ⊠ l0 ⊠ short) ⊞ 100 · (l0 ⊠ short) ⊞ (49 · l0 ⊞ num 35) ⊠ errors
      ⊞ l0 ⊠ (sq (lit 10 ⊗ X ⊖ lit 7 ⊗ A) ⊞ sq (lit 10 ⊗ Y ⊖ lit 7 ⊗ B))
      ⊞ 1000000 · (280 · (l0 ⊠ top) ⊞ 25999800 · u ⊞ num 129929000000)
      ⊞ by_expansion (lit 35)) tt

  placed_low : (l *ℤ l -ℤ pos 2 *ℤ l) ≤ℤ n
  placed_low =
      le_scaled {ρ = ρ} (lit 140 ⊗ (N ⊗ N)) (L ⊗ L ⊖ lit 2 ⊗ L) (var 5) (pos-≤ (lit≤ tt))
      (140 · (l0 ⊠ l0 ⊠ long) ⊞ 100 · (l0 ⊠ short) ⊞ 49 · l0 ⊠ errors ⊞ 35 · (sq A ⊞ sq B)
      ⊞ l0 ⊠ (sq (lit 10 ⊗ X ⊕ lit 7 ⊗ A) ⊞ sq (lit 10 ⊗ Y ⊕ lit 7 ⊗ B))
      ⊞ 1000000 · (280 · (l0 ⊠ top) ⊞ 25999800 · u ⊞ num 129999000000)
      ⊞ by_expansion (neg (lit 35))) tt

heading_positive : pos 1 ≤ℤ heading_length
heading_positive = pos-≤ (lit≤ tt)

pub rule : PlacedRule
unfolding placed_by
rule g l p =
    let d = placed_by g l in
    let a = error heading_length d.x (g.x *ℤ l) in
    let b = error heading_length d.y (g.y *ℤ l) in
    let aLow = nearest_low (g.x *ℤ l) heading_length heading_positive in
    let aHigh = nearest_high (g.x *ℤ l) heading_length heading_positive in
    let bLow = nearest_low (g.y *ℤ l) heading_length heading_positive in
    let bHigh = nearest_high (g.y *ℤ l) heading_length heading_positive in
    let e = expanded heading_length d.x d.y (g.x *ℤ l) (g.y *ℤ l) in
    record {
      low = placed_low l g.x g.y a b (norm_sq d) p.wheelbase p.heading.low p.heading.high aLow aHigh bLow bHigh e;
      high = placed_high l g.x g.y a b (norm_sq d) p.wheelbase p.heading.low p.heading.high aLow aHigh bLow bHigh e;
    }
