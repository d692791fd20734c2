-- What the tests of a job's fields let through. Assumes nothing.
use Prim.Native.Nat.{ℕ, zero, suc, ◌≤◌}
use mathlib.Core.Path.{◌≡◌}
use mathlib.Core.Bool.{Bool, true, false, ◌&&◌}
use native.Mathlib.Omega.{arith}
use lib.Dec.{leb, leb→le}
use lib.IntN.{ℤ, pos, negsuc, neg_ℤ, nat_abs}
use lib.Signed.{le_z, ◌≤ℤ◌}
use borrow.Author.Tests.{leb-true, le-leb}
use Rattle.std.proofs.lemmas.Bool.{and_parts, and_from}
use Rattle.plane.proofs.Lengths.{near_of, coordinates}
use Rattle.job.specs.Allowed.{between, hitch_most, fold_allowed, overhang_most, overhang_allowed, half_width_allowed, body_allowed, heading_allowed, curve_allowed}
use Rattle.job.specs.Curves.{radius_of}
use Rattle.job.specs.declared.Side.TheVariants.{Left, Right}
use Rattle.job.specs.declared.Body.{Body}
use Rattle.job.specs.declared.Form.{Form}
use Rattle.job.specs.declared.Form.TheVariants.{Short, Long}
use Rattle.job.specs.declared.Curve.{Curve}
use Rattle.job.specs.declared.Curve.TheVariants.{Straight, Arc}

-- a number that a range lets through, and one that it does
pub range : (least most n : ℕ) → between least most n ≡ true → (least ≤ n) × (n ≤ most)
range least most n t =
    let b = and_parts (leb least n) (leb n most) t in
    (leb-true least n b.0, leb-true n most b.1)

pub inside : (least most n : ℕ) → least ≤ n → n ≤ most → between least most n ≡ true
inside least most n l m = and_from _ _ (le-leb least n l) (le-leb n most m)

pub hitch_most_lem : (last : Bool) (wheelbase : ℕ) → hitch_most last wheelbase ≤ wheelbase
hitch_most_lem true l = omega arith
hitch_most_lem false l = omega arith

pub overhang_most_lem : (form : Form) → overhang_most form ≤ 50000
overhang_most_lem Short = omega arith
overhang_most_lem Long = omega arith

-- a body's fields in range
pub record BodyInRange (b : Body) : Type 0 where
  pub front : b.front_overhang ≤ 50000
  pub rear : b.rear_overhang ≤ 50000
  pub least : 1000 ≤ b.half_width
  pub most : b.half_width ≤ 20000

pub body_in_range : (b : Body) → body_allowed b ≡ true → BodyInRange b
body_in_range b t =
    let p = and_parts (overhang_allowed b.front_overhang) (overhang_allowed b.rear_overhang && half_width_allowed b.half_width) t in
    let q = and_parts (overhang_allowed b.rear_overhang) (half_width_allowed b.half_width) p.1 in
    let w = range 1000 20000 b.half_width q.1 in
    record { front = (range 0 50000 b.front_overhang p.0).1; rear = (range 0 50000 b.rear_overhang q.0).1; least = w.0; most = w.1 }

pub fold_size : (first : Bool) (z : ℤ) → fold_allowed first z ≡ true → nat_abs z ≤ 1000
fold_size true z t = omega (arith, leb-true (nat_abs z) 0 t)
fold_size false (pos n) t = omega (arith, leb-true n 990 (and_parts (le_z (negsuc 999) (pos n)) (leb n 990) t).1)
fold_size false (negsuc k) t = omega (arith, leb-true k 999 (and_parts (leb k 999) (le_z (negsuc k) (pos 990)) t).0)

size_between : (z : ℤ) → neg_ℤ (pos 1000000) ≤ℤ z → z ≤ℤ pos 1000000 → nat_abs z ≤ 1000000
size_between (pos n) l h = leb→le n 1000000 h.le
size_between (negsuc k) l h = omega (arith, leb→le k 999999 l.le)

-- both coordinates of a heading are at most N in size
pub heading_sizes : (gx gy : ℤ) → heading_allowed gx gy ≡ true → (nat_abs gx ≤ 1000000) × (nat_abs gy ≤ 1000000)
unfolding heading_allowed
heading_sizes gx gy t =
    let n = near_of (record { x = gx; y = gy }) (pos 1000000) t in
    let c = coordinates gx gy (pos 1000000) (record { le = tt }) n.high in
    (size_between gx c.0 c.1, size_between gy c.2 c.3)

pub radius_size : (c : Curve) → curve_allowed c ≡ true → nat_abs (radius_of c) ≤ 1000000
radius_size Straight t = omega arith
radius_size (Arc Right r) t = leb-true r 1000000 (and_parts (leb 20000 r) (leb r 1000000) t).1
radius_size (Arc Left zero) t = omega arith
radius_size (Arc Left (suc r)) t = leb-true (suc r) 1000000 (and_parts (leb 20000 (suc r)) (leb (suc r) 1000000) t).1
