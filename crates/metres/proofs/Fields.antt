-- What the fields of a float's bits say: whether it is a number, and which.
use mathlib.Core.Path.{◌≡◌, refl, ◌∙◌, ap}
use mathlib.Core.Bool.{Bool, true, false, not, cond}
use mathlib.Core.Option.{some, none}
use Prim.Native.Nat.{ℕ, zero, suc, ◌+◌, ◌*◌, ◌/◌, ◌%◌, ◌^◌}
use native.Mathlib.Omega.{arith}
use borrow.Author.Tests.{eq-eqb, ne_eqb}
use lib.Dec.{T, leb, eqb}
use lib.Ieee.{Float, nan, inf, fin, binary64, of_fields, of_bits, nan_bits}
use lib.Ieee.Exact.{HasValue, odd_sign}
use Rattle.metres.specs.Bytes.{finite_of}

-- the exponent's field of the bits
abbrev pub field_of : ℕ → ℕ
field_of b = b % 2 ^ 63 / 2 ^ 52

-- the size that an exponent's field and digits stand for, in units of 2^-1074
unfoldable pub units_of : ℕ → ℕ → ℕ
units_of zero t = t * 2 ^ 0
units_of (suc j) t = (2 ^ 52 + t) * 2 ^ j

pub of_bits_is : (b : ℕ) → of_bits binary64 b ≡ of_fields binary64 (leb (2 ^ 63) b) (field_of b) (b % 2 ^ 52)
unfolding of_bits
of_bits_is b = refl

fields_value : (s : Bool) (x t : ℕ) → (x ≡ 2047 → ⊥) → HasValue (of_fields binary64 s x t) s (units_of x t) (2 ^ 1074)
unfolding of_fields units_of
fields_value s zero t n = odd_sign 53 s t 0 1074
fields_value s (suc j) t n = rw (ne_eqb (suc j) 2047 n) (odd_sign 53 s (2 ^ 52 + t) j 1074)

pub value : (b : ℕ) → (field_of b ≡ 2047 → ⊥) → HasValue (of_bits binary64 b) (leb (2 ^ 63) b) (units_of (field_of b) (b % 2 ^ 52)) (2 ^ 1074)
value b n = rw (of_bits_is b) (fields_value (leb (2 ^ 63) b) (field_of b) (b % 2 ^ 52) n)

-- the field of all ones
no_value : (x : Float) (q s : Bool) → x ≡ cond q (inf s) nan → finite_of x ≡ none
unfolding finite_of
no_value x true s e = ap finite_of e
no_value x false s e = ap finite_of e

at_ones : (s : Bool) (x t : ℕ) → x ≡ 2047 → of_fields binary64 s x t ≡ cond (eqb t 0) (inf s) nan
unfolding of_fields
at_ones s zero t e = let z : ⊥ = omega arith in absurd z
at_ones s (suc x) t e = rw (eq-eqb (suc x) 2047 e)

pub no_number : (b : ℕ) → field_of b ≡ 2047 → finite_of (of_bits binary64 b) ≡ none
no_number b e = no_value (of_bits binary64 b) (eqb (b % 2 ^ 52) 0) (leb (2 ^ 63) b) (of_bits_is b ∙ at_ones (leb (2 ^ 63) b) (field_of b) (b % 2 ^ 52) e)

-- what has a value is a number
pub number : (x : Float) (s : Bool) (a c : ℕ) → HasValue x s a c → finite_of x ≡ some x
unfolding finite_of
number nan s a c h = absurd h
number (inf t) s a c h = absurd h
number (fin t m e) s a c h = refl

-- and its bits are no NaN's
pub no_nan_bits : (b : ℕ) → (field_of b ≡ 2047 → ⊥) → T (not (nan_bits binary64 b))
unfolding nan_bits
no_nan_bits b n = rw (ne_eqb (field_of b) 2047 n) tt
