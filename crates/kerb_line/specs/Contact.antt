-- Which points of a rig touch a kerb as they move (02, N4: the "lowest point, whose move touches or crosses a kerb segment"; "end points count, a point is a segment of no length").
use Rattle.std.specs.Prelude.{ℕ, ◌+◌, Bool, false, ◌||◌, List, [], ◌∷◌, Option, Some, None}
use Rattle.number.specs.Read.{pick}
use Rattle.plane.specs.declared.Vec2.{Vec2}
use Rattle.touching.specs.Touch.{touches}

pub record Segment : Type 0 where
  pub from : Vec2
  pub to : Vec2

abbrev pub segment : Vec2 → Vec2 → Segment
segment a b = record { from = a; to = b }

-- from each vertex to the next
unfoldable pub segments_from : Vec2 → List Vec2 → List Segment
segments_from v [] = []
segments_from v (w ∷ vs) = segment v w ∷ segments_from w vs

-- the segments of a kerb, of which a single vertex is one of no length
unfoldable pub segments : List Vec2 → List Segment
segments [] = []
segments (v ∷ []) = segment v v ∷ []
segments (v ∷ w ∷ vs) = segments_from v (w ∷ vs)

-- the move of a point from a to b touches or crosses one of these segments
unfoldable pub touches_one : Vec2 → Vec2 → List Segment → Bool
touches_one a b [] = false
touches_one a b (s ∷ ss) = touches a b s.from s.to || touches_one a b ss

-- the lowest of the points from number p on whose move does
unfoldable pub lowest_from : ℕ → List Vec2 → List Vec2 → List Segment → Option ℕ
lowest_from p [] news ss = None
lowest_from p (a ∷ olds) [] ss = None
lowest_from p (a ∷ olds) (b ∷ news) ss = pick (touches_one a b ss) (Some p) (lowest_from (p + 1) olds news ss)

-- of the points that go from their old places to their new, and a kerb by its vertices
unfoldable pub lowest_touch : List Vec2 → List Vec2 → List Vec2 → Option ℕ
lowest_touch olds news kerb = lowest_from 0 olds news (segments kerb)
