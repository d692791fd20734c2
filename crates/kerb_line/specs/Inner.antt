-- What only the inner functions of this crate speak of.
use Rattle.std.specs.Prelude.{ℕ, ◌+◌, ◌-◌, ◌<◌, ◌≡◌, Bool, true, false, ◌&&◌, ◌||◌, List, length, get_or, ◌≤ℤ◌, Option, Some, None}
use Rattle.std.specs.Int.Signed.{lt_z}
use Rattle.plane.specs.declared.Vec2.{Vec2}
use Rattle.touching.specs.Touch.{touches, OnMap}
use Rattle.kerb_line.specs.declared.bounds.Bounds.{Bounds}
use Rattle.kerb_line.specs.Kerb.{origin, KerbRuns, vertex_at, vertices_from}
use Rattle.kerb_line.specs.Contact.{Segment, segments_from, touches_one}

-- vertex i lies inside both runs
pub record VertexLent (i : ℕ) (k : KerbRuns) : Type 0 where
  pub xs : i < length k.xs
  pub ys : i < length k.ys

-- the segments from vertex i of n on
abbrev pub segments_after : ℕ → ℕ → KerbRuns → List Segment
segments_after i n k = segments_from (vertex_at k i) (vertices_from (i + 1) (n - 1 - i) k)

-- the lowest of the first n points that pass a test
pub record LowestAt (n : ℕ) (test : ℕ → Bool) (r : ℕ) : Type 0 where
  pub below : r < n
  pub here : test r ≡ true
  pub before : (p : ℕ) → p < r → test p ≡ false

-- or none, where none does
abbrev pub LowestOf : ℕ → (ℕ → Bool) → Option ℕ → Type 0
LowestOf n test None = (p : ℕ) → p < n → test p ≡ false
LowestOf n test (Some r) = LowestAt n test r

-- the move of point p touches a segment, or one of several
abbrev pub move_touches : List Vec2 → List Vec2 → Vec2 → Vec2 → ℕ → Bool
move_touches olds news v w p = touches (get_or olds p origin) (get_or news p origin) v w

abbrev pub move_touches_one : List Vec2 → List Vec2 → List Segment → ℕ → Bool
move_touches_one olds news ss p = touches_one (get_or olds p origin) (get_or news p origin) ss

-- what testing moves against a segment asks
pub record Testable (olds news : List Vec2) (v w : Vec2) : Type 0 where
  pub moves : length olds ≡ length news
  pub old : (p : ℕ) → p < length olds → OnMap (get_or olds p origin)
  pub new : (p : ℕ) → p < length news → OnMap (get_or news p origin)
  pub from : OnMap v
  pub to : OnMap w

-- a place lies inside bounds
pub record Inside (b : Bounds) (v : Vec2) : Type 0 where
  pub west : b.west ≤ℤ v.x
  pub east : v.x ≤ℤ b.east
  pub south : b.south ≤ℤ v.y
  pub north : v.y ≤ℤ b.north

-- bounds b, widened to c by a place, or by the first n of several
pub record TakesIn (b : Bounds) (v : Vec2) (c : Bounds) : Type 0 where
  pub kept : (u : Vec2) → Inside b u → Inside c u
  pub taken : Inside c v

pub record TakesAllIn (b : Bounds) (places : List Vec2) (n : ℕ) (c : Bounds) : Type 0 where
  pub kept : (u : Vec2) → Inside b u → Inside c u
  pub taken : (p : ℕ) → p < n → Inside c (get_or places p origin)

-- points stay inside bounds as they move
pub record Enclosed (b : Bounds) (olds news : List Vec2) : Type 0 where
  pub old : (p : ℕ) → p < length olds → Inside b (get_or olds p origin)
  pub new : (p : ℕ) → p < length news → Inside b (get_or news p origin)

-- a segment lies wholly west, east, south or north of bounds
unfoldable pub beyond : Bounds → Vec2 → Vec2 → Bool
beyond b v w =
    (lt_z v.x b.west && lt_z w.x b.west)
    || (lt_z b.east v.x && lt_z b.east w.x)
    || (lt_z v.y b.south && lt_z w.y b.south)
    || (lt_z b.north v.y && lt_z b.north w.y)
