-- Whether two closed segments have a point in common, exactly over whole numbers (02, N4): end points count, and a point is a segment of no length.
use Rattle.std.specs.Prelude.{◌≡◌, Bool, true, ◌&&◌, ◌||◌, ◌↔◌, ℤ, pos, ◌≤ℤ◌}
use Rattle.std.specs.Int.Signed.{le_z}
use Rattle.exact.specs.Size.{Within}
use Rattle.plane.specs.declared.Vec2.{Vec2}
use Rattle.plane.specs.Vector.{dot, plus, minus, times, right_normal, Moderate}

-- some end of the first, a or b, is at most some end of the second, c or d
abbrev pub some_at_most : ℤ → ℤ → ℤ → ℤ → Bool
some_at_most a b c d = le_z a c || le_z a d || le_z b c || le_z b d

-- the ranges between a and b and between c and d have a number in common: neither lies beyond the other
unfoldable pub ranges_meet : ℤ → ℤ → ℤ → ℤ → Bool
ranges_meet a b c d = some_at_most a b c d && some_at_most c d a b

-- seen along m, the segments AB and CD overlap
unfoldable pub overlap : Vec2 → Vec2 → Vec2 → Vec2 → Vec2 → Bool
overlap m a b c d = ranges_meet (dot m a) (dot m b) (dot m c) (dot m d)

-- they touch where they overlap across AB, across CD, and along the line from A to C, which tells apart what lies in one line
unfoldable pub touches : Vec2 → Vec2 → Vec2 → Vec2 → Bool
touches a b c d = overlap (right_normal (minus b a)) a b c d && overlap (right_normal (minus d c)) a b c d && overlap (minus c a) a b c d

-- 0 ≤ p ≤ n
pub record Part (p n : ℤ) : Type 0 where
  pub least : pos 0 ≤ℤ p
  pub most : p ≤ℤ n

-- p/n and q/n, each from 0 to 1
pub record Fractions : Type 0 where
  pub n : ℤ
  pub p : ℤ
  pub q : ℤ
  pub divisor : pos 1 ≤ℤ n
  pub first : Part p n
  pub second : Part q n

-- a point of both: p/n of the way from A to B is q/n of the way from C to D
pub record Meeting (a b c d : Vec2) : Type 0 where
  pub at : Fractions
  pub same : plus (times a at.n) (times (minus b a) at.p) ≡ plus (times c at.n) (times (minus d c) at.q)

-- the claim: segments touch exactly where some point lies on both
abbrev pub TouchRule : Type 0
TouchRule = (a b c d : Vec2) → touches a b c d ≡ true ↔ Meeting a b c d

-- what the tests ask, so that every product fits
pub record OnMap (v : Vec2) : Type 0 where
  pub x : Within 160000000 v.x
  pub y : Within 160000000 v.y

pub record Touchable (a b c d : Vec2) : Type 0 where
  pub first_from : OnMap a
  pub first_to : OnMap b
  pub second_from : OnMap c
  pub second_to : OnMap d

pub record Sighted (m a b c d : Vec2) : Type 0 where
  pub direction : Moderate m
  pub segments : Touchable a b c d
