-- Settling (01, "Ticks, axes and rounding"): the paper's word for bringing a vector that is nearly K long closer to that length.
use Rattle.std.specs.Prelude.{ℤ, pos, ◌-ℤ◌, ◌*ℤ◌}
use Rattle.plane.specs.declared.Vec2.{Vec2}
use Rattle.plane.specs.Vector.{times, norm_sq, nearest_v}
use Rattle.plane.specs.Length.{Near, Nominal}

-- each coordinate becomes nearest v × (3K² − |v|²) / (2K²)
abbrev pub settle_z : Vec2 → ℤ → Vec2
settle_z v k = nearest_v (times v (pos 3 *ℤ (k *ℤ k) -ℤ norm_sq v)) (pos 2 *ℤ (k *ℤ k))

-- what it asks: |v|² within 4K of K²
pub record Settleable (v : Vec2) (k : ℤ) : Type 0 where
  pub nominal : Nominal k
  pub near : Near v k (pos 4 *ℤ k)
