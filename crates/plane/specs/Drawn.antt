-- Every turn is drawn alike: turned exactly, rounded, settled (01, "Laying the path", "Drawing the units").
-- What that keeps is claimed once for any exact turn (01, "The two rigs of demand 3").
use Rattle.std.specs.Prelude.{◌≡◌, ℤ, pos, ◌*ℤ◌, ◌≤ℤ◌, ◌<ℤ◌}
use Rattle.exact.specs.Nearest.{Divisor}
use Rattle.plane.specs.declared.Vec2.{Vec2}
use Rattle.plane.specs.Vector.{dot, norm_sq, right_normal, nearest_v}
use Rattle.plane.specs.Length.{Near, Nominal}
use Rattle.plane.specs.Settle.{settle_z, Settleable}

-- w / q rounded, then settled to K
abbrev pub drawn : Vec2 → ℤ → ℤ → Vec2
drawn w q k = settle_z (nearest_v w q) k

-- what drawing asks
pub record Drawable (w : Vec2) (q k : ℤ) : Type 0 where
  pub divisor : Divisor q
  pub rounded : Settleable (nearest_v w q) k

-- w / q is d turned or mirrored: as long as d, whose |d|² differs from K² by at most 2K
pub record Turned (w : Vec2) (q : ℤ) (d : Vec2) (k : ℤ) : Type 0 where
  pub divisor : Divisor q
  pub nominal : Nominal k
  pub near : Near d k (pos 2 *ℤ k)
  pub exact : norm_sq w ≡ q *ℤ q *ℤ norm_sq d

-- v has kept the length, lies at most two ticks from the line along w, and on the same side
pub record Kept (w v : Vec2) (k : ℤ) : Type 0 where
  pub length : Near v k (pos 2 *ℤ k)
  pub line : (dot v (right_normal w) *ℤ dot v (right_normal w)) ≤ℤ (pos 4 *ℤ norm_sq w)
  pub side : pos 0 <ℤ dot v w

-- the claim
abbrev pub DrawnRule : Type 0
DrawnRule = (w : Vec2) (q : ℤ) (d : Vec2) (k : ℤ) → Turned w q d k → Kept w (drawn w q k) k
