-- The field of a radius that is allowed. Assumes nothing.
use Prim.Native.Nat.{ℕ, zero, suc, ◌*◌, ◌-◌, ◌≤◌}
use mathlib.Core.Path.{◌≡◌}
use mathlib.Core.Bool.{true}
use native.Mathlib.Omega.{arith}
use lib.Dec.{leb}
use lib.IntN.{pos, neg_ℤ}
use borrow.Author.Tests.{leb-true}
use Rattle.std.proofs.lemmas.Bool.{and_parts}
use Rattle.number.specs.Signed.{field_of}
use Rattle.job.specs.Allowed.{curve_allowed}
use Rattle.job.specs.declared.Side.{Side}
use Rattle.job.specs.declared.Curve.TheVariants.{Arc}

pub radius_range : (side : Side) (r : ℕ) → curve_allowed (Arc side r) ≡ true → (20000 ≤ r) × (r ≤ 1000000)
radius_range side r t =
    let b = and_parts (leb 20000 r) (leb r 1000000) t in
    (leb-true 20000 r b.0, leb-true r 1000000 b.1)

pub left_field : (r : ℕ) → 20000 ≤ r → 2 * r - 1 ≡ field_of (neg_ℤ (pos r))
left_field zero h = absurd (omega arith)
left_field (suc r) h = omega arith
