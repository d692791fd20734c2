-- A float of size at most 150,000,000 by its bits: far below a half, or its digits over a power of two that fits.
use mathlib.Core.Path.{◌≡◌, sym, ◌∙◌, ap, subst}
use mathlib.Core.Bool.{Bool, not}
use mathlib.Core.Option.{none}
use Prim.Native.Nat.{ℕ, zero, suc, ◌+◌, ◌*◌, ◌-◌, ◌%◌, ◌^◌, ◌≤◌, ◌<◌}
use native.Mathlib.Nat.{le_trans, le_of_eq, lt_of_le_of_lt, lt_of_lt_of_le, lt_of_not-le, lt_irrefl, mod-lt, mul_assoc, mul-le-mul_right, le-add_right}
use native.Mathlib.Omega.{arith}
use lib.Dec.{T, leb, lit<, lit≤}
use lib.Pow.{pow-add, pow_pos, pow_mono, shl_lt}
use lib.IntN.{pos}
use lib.Ieee.{Float, nan, inf, fin, binary64, fits, is_nan, to_bits, of_bits}
use lib.Ieee.Bits.{of_bits-to_bits}
use lib.Ieee.Exact.{HasValue}
use Rattle.exact.specs.Nearest.{nearest_z}
use Rattle.metres.specs.Bytes.{finite_of}
use Rattle.metres.specs.Tick.{size_at_most, Sized, signed, nearest_whole, ticks_most}
use Rattle.metres.proofs.Fields.{field_of, units_of, value, no_number}
use Rattle.metres.proofs.SignLaws.{same_nearest, nearest_zero}
use Rattle.metres.proofs.SizeLaws.{value_size}
use Rattle.metres.proofs.Ticks.{nearest_of}

-- what has a size is a number
sized_finite : (b : ℕ) (x : Float) → T (size_at_most b x) → finite_of x ≡ none → ⊥
unfolding size_at_most finite_of
sized_finite b nan z h = absurd z
sized_finite b (inf s) z h = absurd z
sized_finite b (fin s m e) z h = let k : ◌≡◌ {A = ℕ} 0 1 = cc in omega arith

pub sized_no_nan : (b : ℕ) (x : Float) → T (size_at_most b x) → T (not (is_nan x))
unfolding size_at_most is_nan
sized_no_nan b nan z = absurd z
sized_no_nan b (inf s) z = absurd z
sized_no_nan b (fin s m e) z = tt

-- the order of powers of two is that of the exponents
pow_lt_back : (i p : ℕ) → 2 ^ i < 2 ^ p → i < p
pow_lt_back i p h = lt_of_not-le (λ (g : p ≤ i). lt_irrefl (2 ^ i) (lt_of_lt_of_le h (pow_mono g)))

-- the exponent's field of a size up to 2^28
units_field : (x t : ℕ) → units_of x t ≤ 150000000 * 2 ^ 1074 → x ≤ 1050
unfolding units_of
units_field zero t h = omega arith
units_field (suc j) t h =
    let l : 2 ^ (52 + j) < 2 ^ 1102 =
    lt_of_le_of_lt (le_trans (le_of_eq (pow-add 2 52 j)) (le_trans (mul-le-mul_right (2 ^ j) (le-add_right (2 ^ 52) t)) h)) (lit< tt) in
    omega (arith, pow_lt_back (52 + j) 1102 l)

with_lead : (t : ℕ) → t < 2 ^ 52 → 2 ^ 52 + t < 2 ^ 53
with_lead t h = omega arith

-- a field below 1013 is a size below 2^-9
units_below : (x t : ℕ) → t < 2 ^ 52 → units_of x t < 2 ^ (53 + x)
unfolding units_of
units_below zero t h = lt_of_lt_of_le (shl_lt 52 0 h) (lit≤ tt)
units_below (suc j) t h = lt_of_lt_of_le (shl_lt 53 j (with_lead t h)) (pow_mono (omega arith))

units_small : (x t : ℕ) → t < 2 ^ 52 → x < 1013 → 2 * units_of x t < 2 ^ 1074
units_small x t h k =
    let l : units_of x t < 2 ^ 1065 = lt_of_lt_of_le (units_below x t h) (pow_mono {j = 1065} (omega arith)) in
    lt_of_lt_of_le (doubled _ _ l) (lit≤ tt)
  where
    doubled : (a b : ℕ) → a < b → 2 * a < 2 * b
    doubled a b h = omega arith

-- the digits in units, and over a power of two
units_unit : (x t : ℕ) → 1013 ≤ x → x ≤ 1050 → units_of x t * 2 ^ (1075 - x) ≡ (2 ^ 52 + t) * 2 ^ 1074
unfolding units_of
units_unit zero t h k = let z : ⊥ = omega arith in absurd z
units_unit (suc j) t h k =
    let e : j + (1075 - suc j) ≡ 1074 = omega arith in
    mul_assoc (2 ^ 52 + t) (2 ^ j) (2 ^ (1075 - suc j)) ∙ ap (λ (n : ℕ). (2 ^ 52 + t) * n) (sym (pow-add 2 j (1075 - suc j)) ∙ ap (λ (n : ℕ). 2 ^ n) e)

-- the fields of a float's bits
abbrev pub bits : Float → ℕ
bits p = to_bits binary64 p

abbrev pub field : Float → ℕ
field p = field_of (bits p)

abbrev pub digits : Float → ℕ
digits p = bits p % 2 ^ 52

module _ (p : Float) (F : T (fits binary64 p)) (z : Sized ticks_most p) where
  back : of_bits binary64 (bits p) ≡ p
  back = of_bits-to_bits binary64 p F

  has : HasValue p (leb (2 ^ 63) (bits p)) (units_of (field p) (digits p)) (2 ^ 1074)
  has =
      subst (λ (x : Float). HasValue x (leb (2 ^ 63) (bits p)) (units_of (field p) (digits p)) (2 ^ 1074)) back
      (value (bits p) (λ e. sized_finite ticks_most p z.sized (subst (λ (x : Float). finite_of x ≡ none) back (no_number (bits p) e))))

  pub field_most : field p ≤ 1050
  field_most = units_field (field p) (digits p) (value_size p _ _ _ ticks_most has z.sized)

  pub far_below : field p < 1013 → pos 0 ≡ nearest_whole p
  far_below h = sym (nearest_of p _ _ _ (pow_pos 1074) has ∙ nearest_zero (units_of (field p) (digits p)) (2 ^ 1074) (units_small (field p) (digits p) (mod-lt (bits p) (pow_pos 52)) h) (leb (2 ^ 63) (bits p)))

  pub by_digits : 1013 ≤ field p → (s : Bool) → leb (2 ^ 63) (bits p) ≡ s → nearest_z (signed s (2 ^ 52 + digits p)) (pos (2 ^ (1075 - field p))) ≡ nearest_whole p
  by_digits h s e =
      sym (nearest_of p _ _ _ (pow_pos 1074) has
      ∙ same_nearest (units_of (field p) (digits p)) (2 ^ 1074) (2 ^ 52 + digits p) (2 ^ (1075 - field p)) (pow_pos 1074) (pow_pos (1075 - field p)) (units_unit (field p) (digits p) h field_most) (leb (2 ^ 63) (bits p))
      ∙ ap (λ (t : Bool). nearest_z (signed t (2 ^ 52 + digits p)) (pos (2 ^ (1075 - field p)))) e)
