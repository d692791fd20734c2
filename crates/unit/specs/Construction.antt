-- The construction of 1988 (document 002): the turning centre C lies where the rear axle's line meets the perpendicular bisector of the front point's move, and the unit
-- turns about it. The front point goes from F0 = (0, 0) to F1 = f and the rear axle from R0 = −d to R1 = F1 − w / |m|²; C = p / z has whole-number p and z ≥ 1.
use Rattle.std.specs.Prelude.{◌≡◌, ℤ, pos, ◌*ℤ◌, ◌≤ℤ◌}
use Rattle.plane.specs.declared.Vec2.{Vec2}
use Rattle.plane.specs.Vector.{dot, norm_sq, plus, minus, times, right_normal}
use Rattle.unit.specs.Turn.{mirror_line, image}

-- z(C − R0) and z(C − F1)
abbrev pub from_old_axle : Vec2 → Vec2 → ℤ → Vec2
from_old_axle d p z = plus p (times d z)

abbrev pub from_new_front : Vec2 → Vec2 → ℤ → Vec2
from_new_front f p z = minus p (times f z)

-- C lies on the rear axle's line, and as far from the old front point as from the new
pub record Centre (d f p : Vec2) (z : ℤ) : Type 0 where
  pub scale : pos 1 ≤ℤ z
  pub axle_line : dot (from_old_axle d p z) d ≡ pos 0
  pub bisector : norm_sq p ≡ norm_sq (from_new_front f p z)

-- z|m|²(C − R1)
abbrev pub from_new_axle : Vec2 → Vec2 → Vec2 → ℤ → Vec2
from_new_axle d f p z = plus (times (from_new_front f p z) (norm_sq (mirror_line d f))) (times (image (mirror_line d f) d) z)

-- the new rear axle is as far from C as the old, C lies on the new rear axle's line, and on the same side of the unit as before:
-- a unit turned over in the line from C to the new front point keeps the first two
pub record TurnedAbout (d f p : Vec2) (z : ℤ) : Type 0 where
  pub radius : norm_sq (from_new_axle d f p z) ≡ norm_sq (mirror_line d f) *ℤ norm_sq (mirror_line d f) *ℤ norm_sq (from_old_axle d p z)
  pub axle_line : dot (from_new_axle d f p z) (image (mirror_line d f) d) ≡ pos 0
  pub side : dot (from_new_axle d f p z) (right_normal (image (mirror_line d f) d)) ≡ norm_sq (mirror_line d f) *ℤ norm_sq (mirror_line d f) *ℤ dot (from_old_axle d p z) (right_normal d)

-- the front point moves along the unit's own line
abbrev pub InLine : Vec2 → Vec2 → Type 0
InLine d f = dot f (right_normal d) ≡ pos 0

-- the claim: off the line of d there is a centre; about any centre the image is the unit turned; in line with d the image is d itself
pub record Construction1988 : Type 0 where
  pub centre : (d f : Vec2) → (InLine d f → ⊥) → (p : Vec2) × (z : ℤ) × Centre d f p z
  pub turning : (d f p : Vec2) (z : ℤ) → Centre d f p z → TurnedAbout d f p z
  pub in_line : (d f : Vec2) → InLine d f → image (mirror_line d f) d ≡ times d (norm_sq (mirror_line d f))
