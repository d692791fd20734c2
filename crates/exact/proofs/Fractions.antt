-- Equal fractions have one nearest whole number, and what is below a half has 0. Whichever way a half goes.
use mathlib.Core.Path.{◌≡◌, sym, ◌∙◌, ap}
use Prim.Native.Nat.{ℕ, ◌+◌, ◌*◌, ◌/◌, ◌%◌, ◌≤◌, ◌<◌}
use native.Mathlib.Nat.{mul-le-mul_right, mul-lt-mul_of_pos_right, mul_right_comm, mul_comm, mul_assoc, add-mul, add_left_cancel, div-add-mod', mod-eq_of_lt, div-eq_of_lt}
use native.Mathlib.Omega.{arith}
use native.Mathlib.Decide.{dec_le}
use borrow.Author.Tests.{lt-ltb, le-ltb}
use lib.Dec.{ltb}
use lib.IntN.{pos, neg_ℤ}
use lib.Ieee.Nearest.{div_same}
use Rattle.exact.specs.Nearest.{nearest_size, nearest_z}
use Rattle.exact.proofs.Order.{pos-≤}
use Rattle.exact.proofs.NearestLaws.{rounded_down, nearest_odd}

-- a test of two numbers is that of their multiples
scaled_test : (x y k : ℕ) → 0 < k → ltb x y ≡ ltb (x * k) (y * k)
scaled_test x y k K = by (dec_le y x)
  where
    by : Dec (y ≤ x) → ltb x y ≡ ltb (x * k) (y * k)
    by (yes h) = le-ltb x y h ∙ sym (le-ltb (x * k) (y * k) (mul-le-mul_right k h))
    by (no h) =
        let l : x < y = omega arith in
        lt-ltb x y l ∙ sym (lt-ltb (x * k) (y * k) (mul-lt-mul_of_pos_right l K))

module _ (a b c d : ℕ) (B : 0 < b) (D : 0 < d) (e : a * d ≡ c * b) where
  same_whole : a / b ≡ c / d
  same_whole = div_same a b c d B D e

  -- with the whole part taken off both
  same_rest : a % b * d ≡ c % d * b
  same_rest =
      add_left_cancel (a / b * b * d)
      (sym (add-mul (a / b * b) (a % b) d) ∙ ap (λ (x : ℕ). x * d) (div-add-mod' a b) ∙ e ∙ ap (λ (x : ℕ). x * b) (sym (div-add-mod' c d)) ∙ add-mul (c / d * d) (c % d) b
      ∙ ap (λ (x : ℕ). x + c % d * b) (mul_right_comm (c / d) d b ∙ ap (λ (x : ℕ). x * b * d) (sym same_whole)))

  same_twice : 2 * (a % b) * d ≡ 2 * (c % d) * b
  same_twice = mul_assoc 2 (a % b) d ∙ ap (λ (x : ℕ). 2 * x) same_rest ∙ sym (mul_assoc 2 (c % d) b)

  same_below : ltb (2 * (a % b)) b ≡ ltb (2 * (c % d)) d
  same_below = scaled_test (2 * (a % b)) b d D ∙ ap (λ (x : ℕ). ltb x (b * d)) same_twice ∙ ap (ltb (2 * (c % d) * b)) (mul_comm b d) ∙ sym (scaled_test (2 * (c % d)) d b B)

  same_above : ltb b (2 * (a % b)) ≡ ltb d (2 * (c % d))
  same_above = scaled_test b (2 * (a % b)) d D ∙ ap (ltb (b * d)) same_twice ∙ ap (λ (x : ℕ). ltb x (2 * (c % d) * b)) (mul_comm b d) ∙ sym (scaled_test d (2 * (c % d)) b B)

  same_size : nearest_size a b ≡ nearest_size c d
  unfolding nearest_size
  same_size = rw (same_below, same_above, same_whole)

  pub same_nearest : nearest_z (pos a) (pos b) ≡ nearest_z (pos c) (pos d)
  unfolding nearest_z
  same_nearest = ap pos same_size

  pub same_nearest_below : nearest_z (neg_ℤ (pos a)) (pos b) ≡ nearest_z (neg_ℤ (pos c)) (pos d)
  unfolding nearest_z
  same_nearest_below = nearest_odd (pos a) (pos b) (pos-≤ B) ∙ ap (λ (n : ℕ). neg_ℤ (pos n)) same_size ∙ sym (nearest_odd (pos c) (pos d) (pos-≤ D))

module _ (a d : ℕ) (h : 2 * a < d) where
  small : a < d
  small = omega arith

  size_zero : nearest_size a d ≡ 0
  size_zero = rounded_down a d (rw (mod-eq_of_lt small) h) ∙ div-eq_of_lt small

  pub nearest_zero : nearest_z (pos a) (pos d) ≡ pos 0
  unfolding nearest_z
  nearest_zero = ap pos size_zero

  pub nearest_zero_below : nearest_z (neg_ℤ (pos a)) (pos d) ≡ pos 0
  unfolding nearest_z
  nearest_zero_below = nearest_odd (pos a) (pos d) (pos-≤ (omega arith)) ∙ ap (λ (n : ℕ). neg_ℤ (pos n)) size_zero
