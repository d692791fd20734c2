-- Vectors of a nominal length K (01, "The job record", "Why a walk is turned down").
use Rattle.std.specs.Prelude.{Bool, ◌&&◌, leb, ℤ, nat_abs, pos, ◌+ℤ◌, ◌-ℤ◌, ◌*ℤ◌, ◌≤ℤ◌}
use Rattle.std.specs.Int.Signed.{le_z}
use Rattle.plane.specs.declared.Vec2.{Vec2}
use Rattle.plane.specs.Vector.{norm_sq}
use Rattle.plane.specs.Wheelbase.{wheelbase_least}

-- N, the nominal length of a heading
abbrev pub heading_length : ℤ
heading_length = pos 1000000

-- no coordinate of v is larger than K
unfoldable pub in_box : Vec2 → ℤ → Bool
in_box v k = leb (nat_abs v.x) (nat_abs k) && leb (nat_abs v.y) (nat_abs k)

-- |v|² differs from K² by at most 2K
unfoldable pub has_length : Vec2 → ℤ → Bool
has_length v k = le_z (k *ℤ k -ℤ pos 2 *ℤ k) (norm_sq v) && le_z (norm_sq v) (k *ℤ k +ℤ pos 2 *ℤ k)

-- |v|² differs from K² by at most e
pub record Near (v : Vec2) (k e : ℤ) : Type 0 where
  pub low : (k *ℤ k -ℤ e) ≤ℤ norm_sq v
  pub high : norm_sq v ≤ℤ (k *ℤ k +ℤ e)

-- the lengths in use: wheelbases, and the headings' N, which is longer than any
pub record Nominal (k : ℤ) : Type 0 where
  pub least : pos wheelbase_least ≤ℤ k
  pub most : k ≤ℤ heading_length
