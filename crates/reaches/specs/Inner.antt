-- What the functions below the entries ask of their callers.
use Rattle.std.specs.Prelude.{ℕ, ◌*◌, ◌/◌, ◌<◌, ◌≤◌, ◌≡◌, true, List, length, get_or}
use Rattle.exact.specs.Size.{Within}
use Rattle.plane.specs.declared.Vec2.{Vec2}
use Rattle.marks.specs.Requires.{HasPlace, HavePlaces, Counted}
use Rattle.path.specs.declared.Station.{Station}
use Rattle.path.specs.Laying.{PathRuns, SoundStation, room_for}
use Rattle.walk.specs.Drawn.{station_at}
use Rattle.walk.specs.Rig.{zero_vector}
use Rattle.reaches.specs.Cells.{Reaches}

-- room for the stations asked for
pub record Room (asked : ℕ) (r : Reaches) : Type 0 where
  pub left : asked ≤ length r.left
  pub right : asked ≤ length r.right
  pub marks : asked ≤ length r.marks

-- room for one station
pub record CellLent (i : ℕ) (r : Reaches) : Type 0 where
  pub left : i < length r.left
  pub right : i < length r.right
  pub marks : i < length r.marks

-- a point of a rig whose front point is at a sound station
pub record SizedPoint (a : Vec2) : Type 0 where
  pub x : Within 160000000 a.x
  pub y : Within 160000000 a.y

-- a point measured at a station
pub record Measurable (s : Station) (a : Vec2) : Type 0 where
  pub station : SoundStation s
  pub point : SizedPoint a

-- a point's move at a station
pub record Movable (s : Station) (old new : Vec2) : Type 0 where
  pub station : SoundStation s
  pub from : SizedPoint old
  pub to : SizedPoint new

pub record Numbered (p : ℕ) (s : Station) (old new : Vec2) : Type 0 where
  pub number : HasPlace p
  pub move : Movable s old new

-- the moves of all points
pub record AllMoves (s : Station) (olds news : List Vec2) : Type 0 where
  pub room : Counted (length olds)
  pub both : length olds ≡ length news
  pub move : (p : ℕ) → p < length olds → Movable s (get_or olds p zero_vector) (get_or news p zero_vector)

-- a station whose cell is to be written
pub record Enterable (i : ℕ) (s : Station) (olds news : List Vec2) (r : Reaches) : Type 0 where
  pub moves : AllMoves s olds news
  pub lent : CellLent i r

-- a step over a path, of a rig that has points, left ones and right ones in pairs
pub record Crossable (asked : ℕ) (path : PathRuns) (count : ℕ) (olds news : List Vec2) (r : Reaches) : Type 0 where
  pub lent : room_for asked path ≡ true
  pub room : Room asked r
  pub stations : (i : ℕ) → i < asked → SoundStation (station_at path i)
  pub some : 0 < count
  pub even : 2 * (count / 2) ≡ count
  pub points : Counted count
  pub both : length olds ≡ length news
  pub old : (p : ℕ) → p < count → SizedPoint (get_or olds p zero_vector)
  pub new : (p : ℕ) → p < count → SizedPoint (get_or news p zero_vector)

-- stations searched for those that so many points have crossed
pub record Searchable (count asked : ℕ) (r : Reaches) : Type 0 where
  pub bits : HavePlaces count
  pub room : Room asked r
