-- The curve of a signed radius, from the field that holds it. Assumes nothing.
use Prim.Native.Nat.{zero, suc, ◌+◌, ◌%◌, ◌/◌}
use mathlib.Core.Path.{◌≡◌, refl, ap}
use native.Mathlib.Omega.{arith}
use lib.IntN.{ℤ, pos, negsuc}
use Rattle.number.specs.Signed.{field_of}
use Rattle.job.specs.Curves.{curve_of}
use Rattle.job.specs.declared.Side.TheVariants.{Left, Right}
use Rattle.job.specs.declared.Curve.TheVariants.{Straight, Arc}

pub curve_straight : (z : ℤ) → field_of z ≡ 0 → Straight ≡ curve_of z
curve_straight (pos zero) h = refl
curve_straight (pos (suc n)) h = absurd (omega arith)
curve_straight (negsuc k) h = absurd (omega arith)

pub curve_right : (z : ℤ) → (field_of z ≡ 0 → ⊥) → field_of z % 2 ≡ 0 → Arc Right (field_of z / 2) ≡ curve_of z
curve_right (pos zero) n h = absurd (n refl)
curve_right (pos (suc m)) n h = ap (Arc Right) (omega arith)
curve_right (negsuc k) n h = absurd (omega arith)

pub curve_left : (z : ℤ) → (field_of z % 2 ≡ 0 → ⊥) → Arc Left (field_of z / 2 + 1) ≡ curve_of z
curve_left (pos n) h = absurd (h (omega arith))
curve_left (negsuc k) h = ap (Arc Left) (omega arith)
