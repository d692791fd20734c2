-- What `size_at_most` says: of the float unit's test, of a value as a fraction, and of a rounded product.
use mathlib.Core.Path.{◌≡◌, refl, sym, ◌∙◌, ap, subst}
use mathlib.Core.Bool.{Bool, true, false, ◌&&◌, ◌||◌, cond}
use Prim.Native.Nat.{ℕ, zero, suc, ◌+◌, ◌*◌, ◌^◌, ◌≤◌}
use native.Mathlib.Nat.{mul-one, mul_right_comm, mul-le-mul_right, le_of_mul-le-mul_right, le_trans, le_of_eq}
use native.Mathlib.Omega.{arith}
use native.Mathlib.Decide.{dec_le}
use borrow.Author.Tests.{lt-ltb, le-ltb, le-leb, lt-leb, eq-eqb, ne_eqb}
use lib.Dec.{T, leb, ltb, leb→le, lit<}
use lib.IntN.{ℤ, pos}
use lib.Ieee.{Float, nan, inf, fin, Format, binary64, prec, emax, low, up, down, odd, units, round, mul, le, of_bits}
use lib.Ieee.Fits.{down_pos, round_is}
use lib.Ieee.Exact.{HasValue}
use lib.Ieee.Order.{round_mono}
use Rattle.std.specs.Float.{float_with_sign}
use Rattle.metres.specs.Tick.{size_at_most, Sized, ticks_a_metre, metres_most, ticks_most}

-- at most is below or equal, whichever way round the equality q is tested
at_most : (a b : ℕ) (q : Bool) → (a ≡ b → q ≡ true) → ((a ≡ b → ⊥) → q ≡ false) → (ltb a b || (q && true)) ≡ leb a b
at_most a b q same other = by (dec_le b a) (dec_le a b)
  where
    by : Dec (b ≤ a) → Dec (a ≤ b) → (ltb a b || (q && true)) ≡ leb a b
    by (no h) k = rw (lt-ltb a b (omega arith), le-leb a b (omega arith))
    by (yes h) (yes k) = rw (le-ltb a b h, same (omega arith), le-leb a b k)
    by (yes h) (no k) = rw (le-ltb a b h, other (λ e. omega arith), lt-leb a b (omega arith))

-- a number against n · 2^k
module _ (m : ℕ) (e : ℤ) (n k : ℕ) where
  under : le (fin false m e) (fin false n (pos k)) ≡ leb (m * up e) (n * 2 ^ k * down e)
  unfolding le
  under = at_most (m * up e * 1) (n * 2 ^ k * down e) _ (eq-eqb _ _) (ne_eqb _ _) ∙ ap (λ (a : ℕ). leb a (n * 2 ^ k * down e)) (mul-one (m * up e))

-- 15,000 is 1875 · 2^3
limit_is : of_bits binary64 0x40cd_4c00_0000_0000 ≡ fin false 1875 (pos 3)
unfolding of_bits
limit_is = refl

in_limit : (x : Float) → le (float_with_sign false x) (fin false 1875 (pos 3)) ≡ size_at_most metres_most x
unfolding le size_at_most float_with_sign
in_limit nan = refl
in_limit (inf s) = refl
in_limit (fin s m e) = under m e 1875 3

-- the code's test, with 15,000 by its bits
pub within_limit_lem : (x : Float) → le (float_with_sign false x) (of_bits binary64 0x40cd_4c00_0000_0000) ≡ size_at_most metres_most x
within_limit_lem x = rw limit_is (in_limit x)

-- a value a / c of size at most b
pub value_size : (x : Float) (s : Bool) (a c b : ℕ) → HasValue x s a c → T (size_at_most b x) → a ≤ b * c
unfolding size_at_most
value_size nan s a c b h z = absurd h
value_size (inf t) s a c b h z = absurd h
value_size (fin t m e) s a c b h z =
    le_of_mul-le-mul_right
    (le_trans (le_of_eq (sym h.1)) (le_trans (mul-le-mul_right c (leb→le (m * up e) (b * down e) z)) (le_of_eq (mul_right_comm b (down e) c)))) (down_pos e)

-- rounding: the sign has no part in the size, and what is at most n · 2^k before a rounding to no less is so after it
odd_sign_blind : (b d : ℕ) (s : Bool) (q k l : ℕ) → size_at_most b (odd d s q k l) ≡ size_at_most b (odd d false q k l)
unfolding size_at_most odd
odd_sign_blind b d s zero k l = refl
odd_sign_blind b d s (suc q) k l = refl

units_sign_blind : (b : ℕ) (f : Format) (s : Bool) (q k : ℕ) → size_at_most b (units f s q k) ≡ size_at_most b (units f false q k)
unfolding units size_at_most
units_sign_blind b f s q k = go (ltb (q * 2 ^ k) (2 ^ (low f + suc (emax f))))
  where
    go : (t : Bool) → size_at_most b (cond t (odd (suc (prec f)) s q k (low f)) (inf s)) ≡ size_at_most b (cond t (odd (suc (prec f)) false q k (low f)) (inf false))
    go true = odd_sign_blind b (suc (prec f)) s q k (low f)
    go false = refl

module _ (n k : ℕ) where
  odd_under : (d q i l : ℕ) → T (le (odd d false q i l) (fin false n (pos k))) → T (size_at_most (n * 2 ^ k) (odd d false q i l))
  unfolding size_at_most odd
  odd_under d zero i l h = subst T (under 0 (pos 0) n k) h
  odd_under d (suc q) i l h = subst T (under _ _ n k) h

  units_under : (f : Format) (q i : ℕ) → T (le (units f false q i) (fin false n (pos k))) → T (size_at_most (n * 2 ^ k) (units f false q i))
  unfolding units
  units_under f q i = go (ltb (q * 2 ^ i) (2 ^ (low f + suc (emax f))))
    where
      go : (t : Bool) → T (le (cond t (odd (suc (prec f)) false q i (low f)) (inf false)) (fin false n (pos k))) → T (size_at_most (n * 2 ^ k) (cond t (odd (suc (prec f)) false q i (low f)) (inf false)))
      go true h = odd_under (suc (prec f)) q i (low f) h
      go false h = absurd (unfold le in h)

  round_under : (f : Format) (s : Bool) (a c : ℕ) → T (le (round f false a c) (fin false n (pos k))) → T (size_at_most (n * 2 ^ k) (round f s a c))
  round_under f s a c h = rw (round_is f s a c, units_sign_blind) (units_under f _ _ (rw (round_is f false a c) at h))

-- 150,000,000 is 1171875 · 2^7, a float
whole_is : round binary64 false 150000000 1 ≡ fin false 1171875 (pos 7)
unfolding round
whole_is = refl

-- the product keeps the bound: 15,000 · 10,000 needs no rounding, and rounding keeps the order
pub product_sized : (x : Float) → Sized metres_most x → Sized ticks_most (mul binary64 x ticks_a_metre)
unfolding size_at_most mul
product_sized nan h = absurd h.sized
product_sized (inf s) h = absurd h.sized
product_sized (fin s m e) h =
    let k = leb→le (m * up e) (15000 * down e) h.sized in
    let d = down_pos e in
    record {
      sized =
          round_under 1171875 7 binary64 _ (m * up e * 10000) (down e * 1)
          (subst (λ (y : Float). T (le (round binary64 false (m * up e * 10000) (down e * 1)) y)) whole_is
          (round_mono binary64 (m * up e * 10000) (down e * 1) 150000000 1 (omega arith) (lit< tt) (omega arith)));
    }
