-- The two directions of a signed field, by the number's sign and size too, and a signed number as it is read back. Assumes nothing.
use Prim.Native.Nat.{ℕ, zero, suc, ◌+◌, ◌*◌, ◌^◌, ◌%◌, ◌/◌, ◌<◌}
use mathlib.Core.Path.{◌≡◌, refl, ap}
use mathlib.Core.Bool.{true, false}
use native.Mathlib.Omega.{arith}
use lib.IntN.{ℤ, pos, negsuc, ◌-ℤ◌, nat_abs}
use lib.Signed.{mag, lt_z}
use borrow.Author.Tests.{le-ltb, ltb-true, eq-eqb, ne_eqb}
use mir.Syntax.{w32}
use mir.Val.{SFits, to_z, of_z}
use mir.ValLaws.{to_z-of_z, to_z_pos}
use Rattle.number.specs.Signed.{field_of, signed_of}

pub field_signed : (x : ℕ) → field_of (signed_of x) ≡ x
field_signed x = go (x % 2) refl (omega arith)
  where
    go : (r : ℕ) → x % 2 ≡ r → r < 2 → field_of (signed_of x) ≡ x
    go zero e h = rw (eq-eqb (x % 2) 0 e) (omega arith)
    go (suc r) e h = rw (ne_eqb (x % 2) 0 (omega arith)) (omega arith)

pub signed_field_lem : (z : ℤ) → signed_of (field_of z) ≡ z
signed_field_lem (pos n) = rw (eq-eqb (2 * n % 2) 0 (omega arith)) (ap pos (omega arith))
signed_field_lem (negsuc k) = rw (ne_eqb ((2 * k + 1) % 2) 0 (omega arith)) (ap negsuc (omega arith))

-- both stay within 32 bits
pub field_fits : (z : ℤ) → mag z < 2 ^ 31 → field_of z < 2 ^ 32
field_fits (pos n) h = omega arith
field_fits (negsuc k) h = omega arith

pub less_pos : (n : ℕ) → negsuc 0 -ℤ pos n ≡ negsuc n
less_pos zero = refl
less_pos (suc n) = ap negsuc (omega arith)

less_neg : (k : ℕ) → negsuc 0 -ℤ negsuc k ≡ pos k
less_neg k = rw (le-ltb (suc k) 1 (omega arith)) (ap pos (omega arith))

pub record Neg (z : ℤ) : Type 0 where
  pub less : negsuc 0 -ℤ z ≡ pos (mag z)
  pub folds : field_of z ≡ 2 * mag z + 1

pub record Pos (z : ℤ) : Type 0 where
  pub abs : z ≡ pos (mag z)
  pub folds : field_of z ≡ 2 * mag z

pub neg : (z : ℤ) → lt_z z (pos 0) ≡ true → Neg z
neg (pos n) e = absurd (omega (arith, ltb-true n 0 e))
neg (negsuc k) e = record { less = less_neg k; folds = refl }

pub nonneg : (z : ℤ) → lt_z z (pos 0) ≡ false → Pos z
nonneg (pos n) e = record { abs = refl; folds = refl }
nonneg (negsuc k) e = absurd (let z : ◌≡◌ {A = ℕ} 0 1 = cc in omega arith)

-- −1 − z, as it is read back from its bits
pub back_neg : (z : ℤ) → SFits w32 z → Neg z → to_z w32 (of_z w32 (negsuc 0 -ℤ to_z w32 (of_z w32 z))) ≡ pos (mag z)
back_neg z f n = rw (to_z-of_z w32 z f, n.less) (to_z-of_z w32 (pos (mag z)) (record { sfits = f.sfits }))

pub back_less : (x : ℕ) → x < 2 ^ 31 → to_z w32 (of_z w32 (negsuc 0 -ℤ to_z w32 x)) ≡ negsuc x
back_less x h = rw (to_z_pos w32 x h, less_pos x) (to_z-of_z w32 (negsuc x) (record { sfits = h }))

-- a signed number that was passed on is read back from its bits
pub kept : (z : ℤ) → SFits w32 z → to_z w32 (of_z w32 z) ≡ z
kept z f = to_z-of_z w32 z f

-- a signed number's size, from the field that holds it
pub size_is : (z : ℤ) → field_of z / 2 + field_of z % 2 ≡ nat_abs z
size_is (pos n) = omega arith
size_is (negsuc k) = omega arith
