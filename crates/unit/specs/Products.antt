-- What the functions ask that work the mirror image out from products of two numbers of 32 bits (02, N2). Signs go apart from sizes, and a longer factor in two parts.
use Rattle.std.specs.Prelude.{◌≡◌, ℕ, ◌*◌, ◌^◌, ◌<◌, ℤ, nat_abs}
use Rattle.exact.specs.Size.{Within}
use Rattle.plane.specs.declared.Vec2.{Vec2}
use Rattle.plane.specs.Wheelbase.{wheelbase_most}

-- a product that fits 64 bits
pub record LongProduct (a b : ℕ) : Type 0 where
  pub fits : a * b < 2 ^ 64

-- n is the size of a × b, which fits 64 bits with its sign
pub record SizeOfProduct (n : ℕ) (a b : ℤ) : Type 0 where
  pub size : n ≡ nat_abs a * nat_abs b
  pub fits : n < 2 ^ 63

-- the greatest size of a coordinate of m = 2d + f, d and f being no larger than the greatest wheelbase
abbrev pub short_most : ℕ
short_most = 3 * wheelbase_most

-- twice the dot product of two such vectors is no larger: 2(m·d) and |m|², which may be longer than 32 bits
abbrev pub long_most : ℕ
long_most = 4 * (short_most * short_most)

pub record LongFactors (a b : ℤ) : Type 0 where
  pub first : Within short_most a
  pub second : Within long_most b

pub record ShortVector (v : Vec2) : Type 0 where
  pub x : Within short_most v.x
  pub y : Within short_most v.y

-- what a dot product asks
pub record Dotted (a b : Vec2) : Type 0 where
  pub first : ShortVector a
  pub second : ShortVector b

-- what a coordinate of 2(m·d)m − |m|²d asks
pub record Imaged (m along d mm : ℤ) : Type 0 where
  pub first : LongFactors m along
  pub second : LongFactors d mm
