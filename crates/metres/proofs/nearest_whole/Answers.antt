-- `metres::nearest_whole` meets its contract: the digits and the power of two fit, and `Whole` says what their nearest quotient is.
use mathlib.Core.Path.{◌≡◌, sym, ◌∙◌, ap, ap₂, subst}
use mathlib.Core.Bool.{Bool, true, false}
use Prim.Native.Nat.{ℕ, ◌+◌, ◌*◌, ◌-◌, ◌%◌, ◌^◌, ◌≤◌, ◌<◌}
use native.Mathlib.Nat.{one-mul}
use native.Mathlib.Omega.{arith}
use borrow.Author.Tests.{le-leb, lt-leb}
use lib.Dec.{T, leb}
use lib.Pow.{pow-lt, pow_pos, shl_exact}
use lib.IntN.{ℤ, pos, neg_ℤ, ◌-ℤ◌, +ℤ_idl}
use lib.Ieee.{binary64, fits}
use mir.Syntax.{w64}
use mir.Val.{to_z, of_z}
use mir.Facts.{to_z-of_z, to_z_pos}
use Rattle.exact.specs.Nearest.{nearest_z}
use Rattle.exact.specs.Size.{Within}
use Rattle.exact.proofs.Order.{pos-≤}
use Rattle.exact.proofs.Sizes.{within_neg, fits64}
use Rattle.exact.proofs.Machine.{reread, reread_result}
use Rattle.metres.specs.Tick.{signed, nearest_whole}
use Rattle.metres.proofs.Whole.{bits, digits, sized_no_nan, field_most, far_below, by_digits}
use Rattle.metres.proofs.nearest_whole.Goals as goal
use Rattle.metres.proofs.nearest_whole.Goals.{Else-exponent-lt1013, Start}

-- what owning an `f64` tells: the format holds it
held : (c : Start) → T (fits binary64 c.args.p)
held c = subst T (sym c.well_formed.0.1) tt

pub float_to_bits-bits : goal.float_to_bits-bits
float_to_bits-bits c = sized_no_nan 150000000 c.args.p c.requires.sized

pub returns-then-exponent-lt1013 : goal.returns-then-exponent-lt1013
returns-then-exponent-lt1013 c = far_below c.args.p (held (goal.at.returns-then-exponent-lt1013 c).Start) c.requires (rw c.exponent_of-exponent.ensures at c.if-exponent-lt1013.true)

-- the power of two and the digits, as the machine has them
module _ (c : Else-exponent-lt1013) where
  abbrev by : ℕ
  by = 1075 - c.exponent_of-exponent.result

  most : c.exponent_of-exponent.result ≤ 1050
  most = omega (arith, c.exponent_of-exponent.ensures, field_most c.args.p (held c.before.before) c.requires)

  -- the digits over the power of two
  quotient : (s : Bool) → leb (2 ^ 63) (bits c.args.p) ≡ s → nearest_z (signed s (2 ^ 52 + digits c.args.p)) (pos (2 ^ by)) ≡ nearest_whole c.args.p
  quotient = rw c.exponent_of-exponent.ensures (by_digits c.args.p (held c.before.before) c.requires (rw c.exponent_of-exponent.ensures at c.if-exponent-lt1013.false))

  unit_is : 1 * 2 ^ by % 2 ^ 64 ≡ 2 ^ by
  unit_is = shl_exact 1 by 64 (omega arith) (omega (arith, c.if-exponent-lt1013.false)) ∙ one-mul (2 ^ by)

  unit_below : 2 ^ by < 2 ^ 63
  unit_below = pow-lt {j = 63} (omega (arith, c.if-exponent-lt1013.false))

  unit_read_lem : to_z w64 (1 * 2 ^ by % 2 ^ 64) ≡ pos (2 ^ by)
  unit_read_lem = ap (to_z w64) unit_is ∙ to_z_pos w64 unit_below

  abbrev whole : ℕ
  whole = 2 ^ 52 + digits c.args.p

  digits_within : Within (2 ^ 53) (pos whole)
  digits_within = record { size = omega arith }

  digits_read : to_z w64 whole ≡ pos whole
  digits_read = to_z_pos w64 (omega arith)

  negated_is : pos 0 -ℤ to_z w64 whole ≡ neg_ℤ (pos whole)
  negated_is = ap (λ (z : ℤ). pos 0 -ℤ z) digits_read ∙ +ℤ_idl _

  negated_read : to_z w64 (of_z w64 (pos 0 -ℤ to_z w64 whole)) ≡ neg_ℤ (pos whole)
  negated_read = ap reread negated_is ∙ to_z-of_z {w = w64} (fits64 tt (within_neg digits_within))

pub overflow_sub-unit : goal.overflow_sub-unit
overflow_sub-unit c = omega (arith, most c)

pub overflow_cast-unit : goal.overflow_cast-unit
overflow_cast-unit c = record { sfits = rw (unit_is c) (unit_below c) }

pub nearest-requires : goal.nearest-requires
nearest-requires c = record { positive = rw (unit_read_lem (goal.at.nearest-requires c).Else-exponent-lt1013) (pos-≤ (pow_pos (by (goal.at.nearest-requires c).Else-exponent-lt1013))) }

pub overflow_sub-digits : goal.overflow_sub-digits
overflow_sub-digits c = rw (negated_is (goal.at.overflow_sub-digits c).Else-exponent-lt1013) (fits64 tt (within_neg (digits_within (goal.at.overflow_sub-digits c).Else-exponent-lt1013)))

pub nearest-requires-else-bits-lt-SIGN : goal.nearest-requires-else-bits-lt-SIGN
nearest-requires-else-bits-lt-SIGN c = record { positive = rw (unit_read_lem (goal.at.nearest-requires-else-bits-lt-SIGN c).Else-exponent-lt1013) (pos-≤ (pow_pos (by (goal.at.nearest-requires-else-bits-lt-SIGN c).Else-exponent-lt1013))) }

pub returns-then-bits-lt-SIGN : goal.returns-then-bits-lt-SIGN
returns-then-bits-lt-SIGN c =
    let e = (goal.at.returns-then-bits-lt-SIGN c).Else-exponent-lt1013 in
    reread_result c.nearest.type_inv
    (c.nearest.ensures ∙ ap₂ nearest_z (digits_read e) (unit_read_lem e)
    ∙ quotient e false (lt-leb _ _ c.if-bits-lt-SIGN.true))

pub returns-else-bits-lt-SIGN : goal.returns-else-bits-lt-SIGN
returns-else-bits-lt-SIGN c =
    let e = (goal.at.returns-else-bits-lt-SIGN c).Else-exponent-lt1013 in
    reread_result c.nearest-else-bits-lt-SIGN.type_inv
    (c.nearest-else-bits-lt-SIGN.ensures ∙ ap₂ nearest_z (negated_read e) (unit_read_lem e)
    ∙ quotient e true (le-leb _ _ c.if-bits-lt-SIGN.false))
