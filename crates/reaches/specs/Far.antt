-- Stations that no point of the rig can cross in a step, because they lie farther ahead or behind than the rig is long. No answer depends on these definitions: they spare work.
use Rattle.std.specs.Prelude.{ℕ, ◌+◌, ◌*◌, ◌/◌, ◌<◌, ◌≡◌, Bool, not, ◌||◌, List, length, get_or, ℤ, pos, nat_abs, ◌+ℤ◌, ◌-ℤ◌, ◌*ℤ◌, ◌≤ℤ◌}
use Rattle.std.specs.Int.Signed.{le_z}
use Rattle.exact.specs.Size.{Within}
use Rattle.plane.specs.declared.Vec2.{Vec2}
use Rattle.plane.specs.Length.{heading_length}
use Rattle.path.specs.declared.Station.{Station}
use Rattle.path.specs.Laying.{SoundStation}
use Rattle.walk.specs.Rig.{zero_vector}
use Rattle.reaches.specs.declared.far.Spread.{Spread}
use Rattle.reaches.specs.Crossing.{ahead_of, crosses}
use Rattle.reaches.specs.Cells.{Reaches}
use Rattle.reaches.specs.Inner.{SizedPoint, Measurable, Movable, AllMoves, Enterable}

-- how far apart two points lie, east and north together
abbrev pub apart : Vec2 → Vec2 → ℤ
apart a b = pos (nat_abs (b.x -ℤ a.x)) +ℤ pos (nat_abs (b.y -ℤ a.y))

-- a station as far off, along its heading, as anything `near` the point a, or farther
unfoldable pub far_off : Station → Vec2 → ℤ → Bool
far_off s a near = le_z (near *ℤ heading_length) (ahead_of s a) || not (le_z (pos 0 -ℤ near *ℤ heading_length) (ahead_of s a))

-- a station that no point reaches
abbrev pub misses : Spread → Station → Bool
misses w s = far_off s w.from w.near

-- none of the first n points lies farther from a place than r
pub record Near (from : Vec2) (points : List Vec2) (n : ℕ) (r : ℤ) : Type 0 where
  pub each : (p : ℕ) → p < n → apart from (get_or points p zero_vector) ≤ℤ r

-- and r is not less than `low`
pub record Farthest (from : Vec2) (low : ℤ) (points : List Vec2) (n : ℕ) (r : ℤ) : Type 0 where
  pub least : low ≤ℤ r
  pub near : Near from points n r
  pub size : Within 640000000 r

-- no point of a pair, before the step or after it, lies farther than r from the place of its left one before the step
pub record PairSpread (pairs : ℕ) (olds news : List Vec2) (r : ℤ) : Type 0 where
  pub new : (k : ℕ) → k < pairs → apart (get_or olds (2 * k) zero_vector) (get_or news (2 * k) zero_vector) ≤ℤ r
  pub old_right : (k : ℕ) → k < pairs → apart (get_or olds (2 * k) zero_vector) (get_or olds (2 * k + 1) zero_vector) ≤ℤ r
  pub new_right : (k : ℕ) → k < pairs → apart (get_or olds (2 * k) zero_vector) (get_or news (2 * k + 1) zero_vector) ≤ℤ r
  pub size : Within 640000000 r

-- what is asked of the numbers, so that nothing overflows
pub record BothSized (a b : Vec2) : Type 0 where
  pub first : SizedPoint a
  pub second : SizedPoint b

pub record AllSized (from : Vec2) (low : ℤ) (points : List Vec2) : Type 0 where
  pub place : SizedPoint from
  pub least : Within 640000000 low
  pub each : (p : ℕ) → p < length points → SizedPoint (get_or points p zero_vector)

pub record PairsSized (olds news : List Vec2) : Type 0 where
  pub both : length olds ≡ length news
  pub old : (p : ℕ) → p < length olds → SizedPoint (get_or olds p zero_vector)
  pub new : (p : ℕ) → p < length olds → SizedPoint (get_or news p zero_vector)

-- the points of a step, of which there are some
pub record Spreadable (olds news : List Vec2) : Type 0 where
  pub some : 0 < length olds
  pub sized : PairsSized olds news

-- what a spread says of the points of a step
pub record SpreadOf (w : Spread) (olds news : List Vec2) : Type 0 where
  pub place : SizedPoint w.from
  pub old : Near w.from olds (length olds) w.near
  pub new : Near w.from news (length olds) w.near
  pub size : Within 640000000 w.near
  pub pairs : PairSpread (length olds / 2) olds news w.beside

-- the left and the right point of a pair
abbrev pub left_of : List Vec2 → Vec2
left_of pair = get_or pair 0 zero_vector

abbrev pub right_of : List Vec2 → Vec2
right_of pair = get_or pair 1 zero_vector

-- the moves of a pair at a station, and whether either of it crosses
pub record PairMoves (s : Station) (near : ℤ) (old new : List Vec2) : Type 0 where
  pub left : Movable s (left_of old) (left_of new)
  pub right : Movable s (right_of old) (right_of new)
  pub new_near : apart (left_of old) (left_of new) ≤ℤ near
  pub old_right_near : apart (left_of old) (right_of old) ≤ℤ near
  pub new_right_near : apart (left_of old) (right_of new) ≤ℤ near
  pub size : Within 640000000 near

abbrev pub pair_crosses : Station → List Vec2 → List Vec2 → Bool
pair_crosses s old new = crosses s (left_of old) (left_of new) || crosses s (right_of old) (right_of new)

-- the moves of all points, in pairs, at a station
pub record PairsMove (s : Station) (near : ℤ) (olds news : List Vec2) : Type 0 where
  pub moves : AllMoves s olds news
  pub even : 2 * (length olds / 2) ≡ length olds
  pub pairs : PairSpread (length olds / 2) olds news near

pub record Measured (s : Station) (a : Vec2) (r : ℤ) : Type 0 where
  pub point : Measurable s a
  pub near : Within 640000000 r

pub record Missable (w : Spread) (s : Station) : Type 0 where
  pub point : Measurable s w.from
  pub near : Within 640000000 w.near

-- a step at any station, with how far its points spread
pub record AtStation (i : ℕ) (s : Station) (w : Spread) (olds news : List Vec2) (r : Reaches) : Type 0 where
  pub cell : Enterable i s olds news r
  pub station : SoundStation s
  pub even : 2 * (length olds / 2) ≡ length olds
  pub spread : SpreadOf w olds news
