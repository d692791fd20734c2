-- Vectors of whole numbers (01, "Ticks, axes and rounding"). X points east, Y north; a length is counted in ticks of a tenth of a millimetre.
use Rattle.std.specs.Prelude.{ℤ, neg_ℤ, ◌+ℤ◌, ◌-ℤ◌, ◌*ℤ◌}
use Rattle.exact.specs.Size.{Within}
use Rattle.exact.specs.Nearest.{nearest_z, Divisor}
use Rattle.plane.specs.declared.Vec2.{Vec2}

abbrev pub dot : Vec2 → Vec2 → ℤ
dot a b = a.x *ℤ b.x +ℤ a.y *ℤ b.y

-- |v|²
abbrev pub norm_sq : Vec2 → ℤ
norm_sq v = dot v v

abbrev pub plus : Vec2 → Vec2 → Vec2
plus a b = record { x = a.x +ℤ b.x; y = a.y +ℤ b.y }

abbrev pub minus : Vec2 → Vec2 → Vec2
minus a b = record { x = a.x -ℤ b.x; y = a.y -ℤ b.y }

abbrev pub times : Vec2 → ℤ → Vec2
times v n = record { x = v.x *ℤ n; y = v.y *ℤ n }

-- the right-hand normal of (x, y) is (y, −x)
abbrev pub right_normal : Vec2 → Vec2
right_normal v = record { x = v.y; y = neg_ℤ v.x }

-- v / d, nearest by coordinate
abbrev pub nearest_v : Vec2 → ℤ → Vec2
nearest_v v d = record { x = nearest_z v.x d; y = nearest_z v.y d }

-- what a product of coordinates asks, so that it fits
pub record Moderate (v : Vec2) : Type 0 where
  pub x : Within 2000000000 v.x
  pub y : Within 2000000000 v.y

pub record BothModerate (a b : Vec2) : Type 0 where
  pub first : Moderate a
  pub second : Moderate b

-- what v × n / d asks: the products fit 64 bits with their sign
pub record Scalable (v : Vec2) (n d : ℤ) : Type 0 where
  pub x : Within 9223372036854775807 (v.x *ℤ n)
  pub y : Within 9223372036854775807 (v.y *ℤ n)
  pub divisor : Divisor d
