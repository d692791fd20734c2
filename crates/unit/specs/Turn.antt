-- Turning one unit (01, "Drawing the units"). A unit is its vector d from rear axle to front point; L is its wheelbase, f the move of its front point.
use Rattle.std.specs.Prelude.{Bool, ◌&&◌, cond, ℕ, ℤ, pos, ◌*ℤ◌, ◌≤ℤ◌}
use Rattle.std.specs.Int.Signed.{lt_z}
use Rattle.exact.specs.Size.{Within}
use Rattle.plane.specs.declared.Vec2.{Vec2}
use Rattle.plane.specs.Vector.{dot, norm_sq, plus, minus, times, nearest_v}
use Rattle.plane.specs.Wheelbase.{wheelbase_most, is_wheelbase}
pub use Rattle.plane.specs.Wheelbase.{Wheelbase}
use Rattle.plane.specs.Length.{heading_length, has_length, Near}
use Rattle.plane.specs.Settle.{settle_z}
use Rattle.plane.specs.Drawn.{Kept}
use Rattle.refusal.specs.Numbers.{Answer, answered, refused}

-- at the start: nearest L × g / N, for the heading g
unfoldable pub placed_by : Vec2 → ℤ → Vec2
placed_by g l = nearest_v (times g l) heading_length

-- m = 2d + f
abbrev pub mirror_line : Vec2 → Vec2 → Vec2
mirror_line d f = plus (times d (pos 2)) f

-- |m|² times the mirror image of d in the line along m: w = 2(m·d)m − |m|²d
abbrev pub image : Vec2 → Vec2 → Vec2
image m d = minus (times m (pos 2 *ℤ dot m d)) (times d (norm_sq m))

-- the mirror image, rounded, before it is settled: e = nearest w / |m|²
abbrev pub mirrored : Vec2 → Vec2 → Vec2
mirrored d f = nearest_v (image (mirror_line d f) d) (norm_sq (mirror_line d f))

-- the drawn rule: e, then settled to L
unfoldable pub turned_by : Vec2 → Vec2 → ℤ → Vec2
turned_by d f l = settle_z (mirrored d f) l

-- the front point moves farther than the wheelbase
unfoldable pub too_far : Vec2 → ℤ → Bool
too_far f l = lt_z (l *ℤ l) (norm_sq f)

-- the single unit's turn: 27 for a wheelbase out of range or |d|² off L² by more than 2L, then 22, then the turned vector
unfoldable pub unit_turn : Vec2 → Vec2 → ℕ → Answer Vec2
unit_turn d f l =
    cond (is_wheelbase l && has_length d (pos l))
    (cond (too_far f (pos l)) (refused 22) (answered (turned_by d f (pos l))))
    (refused 27)

-- what a placed vector asks: |g|² differs from N² by at most 2N
pub record Placeable (g : Vec2) (l : ℤ) : Type 0 where
  pub wheelbase : Wheelbase l
  pub heading : Near g heading_length (pos 2 *ℤ heading_length)

-- what a turn asks: |d|² differs from L² by at most 2L, and the front point moves no farther than L
pub record Turnable (d f : Vec2) (l : ℤ) : Type 0 where
  pub wheelbase : Wheelbase l
  pub near : Near d l (pos 2 *ℤ l)
  pub move : norm_sq f ≤ℤ (l *ℤ l)

-- the sizes of a unit's vector and of its front point's move: coordinates up to the greatest wheelbase
pub record UnitSized (v : Vec2) : Type 0 where
  pub x : Within wheelbase_most v.x
  pub y : Within wheelbase_most v.y

-- what the mirror image asks
pub record Mirrorable (d f : Vec2) : Type 0 where
  pub vector : UnitSized d
  pub move : UnitSized f
  pub line : pos 1 ≤ℤ norm_sq (mirror_line d f)

-- the claim of the placement: the vector has its length
abbrev pub PlacedRule : Type 0
PlacedRule = (g : Vec2) (l : ℤ) → Placeable g l → Near (placed_by g l) l (pos 2 *ℤ l)

-- the claim of the turn: the length is kept, and the vector lies at most two ticks from the line along w, on its side
abbrev pub TurnRule : Type 0
TurnRule = (d f : Vec2) (l : ℤ) → Turnable d f l → Kept (image (mirror_line d f) d) (turned_by d f l) l
