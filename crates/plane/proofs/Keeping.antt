-- The claim of every turn: what is turned exactly, rounded and settled keeps its length, its line and its side.
use mathlib.Core.Path.{◌≡◌}
use mathlib.Core.List.{List, [], ◌∷◌}
use lib.IntN.{ℤ, pos, negsuc, neg_ℤ, ◌+ℤ◌, ◌-ℤ◌, ◌*ℤ◌}
use lib.Signed.{◌≤ℤ◌, ◌<ℤ◌}
use Rattle.exact.proofs.Polynomial.{Expr, ◌⊕◌, ◌⊖◌, ◌⊗◌, neg, lit, var, ring}
use Rattle.exact.proofs.Certificate.{hyp, le}
use Rattle.exact.proofs.NearestLaws.{nearest_low, nearest_high}
use Rattle.plane.specs.declared.Vec2.{Vec2}
use Rattle.plane.specs.Vector.{dot, norm_sq, right_normal, nearest_v}
use Rattle.plane.specs.Length.{Near}
use Rattle.plane.specs.Drawn.{drawn, Drawable, Turned, Kept, DrawnRule}
use Rattle.plane.proofs.SettleSizes.{twice_square_positive}
use Rattle.plane.proofs.Rounded.{error, rounded_near}
use Rattle.plane.proofs.Settled.{settled_near}
use Rattle.plane.proofs.Line.{across-≤, along_positive}

-- an exact turn can be drawn
pub turned_drawable : (w : Vec2) (q : ℤ) (d : Vec2) (k : ℤ) → Turned w q d k → Drawable w q k
turned_drawable w q d k t = record { divisor = t.divisor; rounded = record { nominal = t.nominal; near = rounded_near w q d k t } }

positive-< : (z : ℤ) → pos 1 ≤ℤ z → pos 0 <ℤ z
positive-< (pos n) h = record { lt = h.le }
positive-< (negsuc n) h = absurd h.le

-- the two roundings together: v = (vx, vy) is w / q rounded to (ex, ey), then (ex, ey)·μ / D rounded, with D = 2K²
module _ (wx wy q k μ ex ey vx vy : ℤ) where
  abbrev ρ : List ℤ
  ρ = wx ∷ wy ∷ q ∷ k ∷ μ ∷ ex ∷ ey ∷ vx ∷ vy ∷ []

  abbrev D : ℤ
  D = pos 2 *ℤ (k *ℤ k)

  abbrev DD : Expr
  DD = lit 2 ⊗ (var 3 ⊗ var 3)

  abbrev A : Expr
  A = lit 2 ⊗ (var 2 ⊗ var 5 ⊖ var 0)

  abbrev B : Expr
  B = lit 2 ⊗ (var 2 ⊗ var 6 ⊖ var 1)

  abbrev C : Expr
  C = lit 2 ⊗ (DD ⊗ var 7 ⊖ var 5 ⊗ var 4)

  abbrev G : Expr
  G = lit 2 ⊗ (DD ⊗ var 8 ⊖ var 6 ⊗ var 4)

  across : pos 2 *ℤ q *ℤ D *ℤ (vx *ℤ wy +ℤ vy *ℤ neg_ℤ wx)
      ≡ μ *ℤ (error q ex wx *ℤ wy -ℤ error q ey wy *ℤ wx) +ℤ q *ℤ (error D vx (ex *ℤ μ) *ℤ wy -ℤ error D vy (ey *ℤ μ) *ℤ wx)
  across =
      ring ρ (lit 2 ⊗ var 2 ⊗ DD ⊗ (var 7 ⊗ var 1 ⊕ var 8 ⊗ neg (var 0)))
      (var 4 ⊗ (A ⊗ var 1 ⊖ B ⊗ var 0) ⊕ var 2 ⊗ (C ⊗ var 1 ⊖ G ⊗ var 0)) tt

  along : pos 2 *ℤ q *ℤ D *ℤ (vx *ℤ wx +ℤ vy *ℤ wy)
      ≡ μ *ℤ (pos 2 *ℤ (wx *ℤ wx +ℤ wy *ℤ wy) +ℤ (error q ex wx *ℤ wx +ℤ error q ey wy *ℤ wy)) +ℤ q *ℤ (error D vx (ex *ℤ μ) *ℤ wx +ℤ error D vy (ey *ℤ μ) *ℤ wy)
  along =
      ring ρ (lit 2 ⊗ var 2 ⊗ DD ⊗ (var 7 ⊗ var 0 ⊕ var 8 ⊗ var 1))
      (var 4 ⊗ (lit 2 ⊗ (var 0 ⊗ var 0 ⊕ var 1 ⊗ var 1) ⊕ (A ⊗ var 0 ⊕ B ⊗ var 1)) ⊕ var 2 ⊗ (C ⊗ var 0 ⊕ G ⊗ var 1)) tt

module _ (w : Vec2) (q : ℤ) (d : Vec2) (k : ℤ) (t : Turned w q d k) where
  abbrev wx : ℤ
  wx = w.x

  abbrev wy : ℤ
  wy = w.y

  abbrev ex : ℤ
  ex = (nearest_v w q).x

  abbrev ey : ℤ
  ey = (nearest_v w q).y

  abbrev n : ℤ
  n = norm_sq (nearest_v w q)

  abbrev μ : ℤ
  μ = pos 3 *ℤ (k *ℤ k) -ℤ n

  abbrev K2 : ℤ
  K2 = pos 2 *ℤ (k *ℤ k)

  abbrev vx : ℤ
  vx = (drawn w q k).x

  abbrev vy : ℤ
  vy = (drawn w q k).y

  q1 : pos 1 ≤ℤ q
  q1 = t.divisor.positive

  K2-positive : pos 1 ≤ℤ K2
  K2-positive = twice_square_positive k t.nominal.least

  rounded : Near (nearest_v w q) k (pos 4 *ℤ k)
  rounded = rounded_near w q d k t

  abbrev KK : Expr
  KK = var 0 ⊗ var 0

  μ-high : μ ≤ℤ (K2 +ℤ pos 4 *ℤ k)
  μ-high = le {ρ = k ∷ n ∷ []} (lit 3 ⊗ KK ⊖ var 1) (lit 2 ⊗ KK ⊕ lit 4 ⊗ var 0) (hyp (KK ⊖ lit 4 ⊗ var 0) (var 1) rounded.low) tt

  μ-low : (K2 -ℤ pos 4 *ℤ k) ≤ℤ μ
  μ-low = le {ρ = k ∷ n ∷ []} (lit 2 ⊗ KK ⊖ lit 4 ⊗ var 0) (lit 3 ⊗ KK ⊖ var 1) (hyp (var 1) (KK ⊕ lit 4 ⊗ var 0) rounded.high) tt

  pub kept : Kept w (drawn w q k) k
  kept =
      let a = error q ex wx in
      let b = error q ey wy in
      let c = error K2 vx (ex *ℤ μ) in
      let g = error K2 vy (ey *ℤ μ) in
      record {
        length = settled_near (nearest_v w q) k t.nominal.least rounded;
        line =
            across-≤ wx wy a b c g q k μ (dot (drawn w q k) (right_normal w)) (norm_sq d) q1 t.nominal.least μ-high μ-low
            (nearest_low wx q q1) (nearest_high wx q q1) (nearest_low wy q q1) (nearest_high wy q q1)
            (nearest_low (ex *ℤ μ) K2 K2-positive) (nearest_high (ex *ℤ μ) K2 K2-positive) (nearest_low (ey *ℤ μ) K2 K2-positive) (nearest_high (ey *ℤ μ) K2 K2-positive)
            (across wx wy q k μ ex ey vx vy);
        side =
            positive-< (dot (drawn w q k) w)
            (along_positive wx wy a b c g q k μ (dot (drawn w q k) w) (norm_sq d) q1 t.nominal.least μ-high μ-low
            (nearest_low wx q q1) (nearest_high wx q q1) (nearest_low wy q q1) (nearest_high wy q q1)
            (nearest_low (ex *ℤ μ) K2 K2-positive) (nearest_high (ex *ℤ μ) K2 K2-positive) (nearest_low (ey *ℤ μ) K2 K2-positive) (nearest_high (ey *ℤ μ) K2 K2-positive)
            t.near.low t.exact (along wx wy q k μ ex ey vx vy));
      }

pub rule : DrawnRule
rule w q d k t = kept w q d k t
