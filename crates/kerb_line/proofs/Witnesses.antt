-- Each requirement of this crate can be met, at the ends of its ranges too; and contacts of each kind, computed.
use Prim.Native.Nat.{ℕ, ◌<◌}
use mathlib.Core.Path.{◌≡◌, refl}
use mathlib.Core.List.{List, [], ◌∷◌}
use native.Mathlib.Omega.{arith}
use lib.Dec.{lit≤}
use lib.ListN.{get_or}
use lib.IntN.{ℤ, pos, negsuc}
use Rattle.std.specs.Prelude.{Option, Some, None}
use Rattle.plane.specs.declared.Vec2.{Vec2}
use Rattle.touching.specs.Touch.{ranges_meet, overlap, touches, OnMap}
use Rattle.kerb_line.specs.Kerb.{origin, KerbRuns, kerb_runs, vertices_from, vertices, kerb_lent, kerb_sound}
use Rattle.kerb_line.specs.Contact.{segments_from, segments, touches_one, lowest_from, lowest_touch}
use Rattle.kerb_line.specs.Requires.{Lent, Meetable}
use Rattle.kerb_line.specs.Inner.{VertexLent, Testable}

abbrev vec : ℤ → ℤ → Vec2
vec a b = record { x = a; y = b }

-- one vertex, as far off as it may lie
abbrev far : KerbRuns
far = kerb_runs (pos 150000000 ∷ []) (negsuc 149999999 ∷ [])

lent_met : Lent 1 far
unfolding kerb_lent
lent_met = record { lent = refl }

vertex_lent_met : VertexLent 0 far
vertex_lent_met = record { xs = lit≤ tt; ys = lit≤ tt }

-- one point, as far off as it may lie
abbrev place : Vec2
place = vec (pos 160000000) (negsuc 159999999)

on_map : OnMap place
on_map = record { x = record { size = lit≤ tt }; y = record { size = lit≤ tt } }

only : (p : ℕ) → p < 1 → OnMap (get_or (place ∷ []) p origin)
only p h = let e : 0 ≡ p = omega arith in rw (← e) on_map

meetable_met : Meetable (place ∷ []) (place ∷ []) 1 far
unfolding kerb_lent kerb_sound
meetable_met = record { moves = refl; old = only; new = only; lent = refl; sound = refl }

testable_met : Testable (place ∷ []) (place ∷ []) place place
testable_met = record { moves = refl; old = only; new = only; from = on_map; to = on_map }

-- point 0 moves from (0, 0) to (4, 2), point 1 from (0, 10) to (4, 12)
abbrev olds : List Vec2
olds = vec (pos 0) (pos 0) ∷ vec (pos 0) (pos 10) ∷ []

abbrev news : List Vec2
news = vec (pos 4) (pos 2) ∷ vec (pos 4) (pos 12) ∷ []

-- against the kerb with these vertices
abbrev row : List Vec2 → Option ℕ
row = lowest_touch olds news

record Rows : Type 0 where
  point_between : row (vec (pos 2) (pos 1) ∷ []) ≡ Some 0
  point_beside : row (vec (pos 2) (pos 2) ∷ []) ≡ None
  last_segment_alone : row (vec (pos 9) (pos 0) ∷ vec (pos 9) (pos 9) ∷ vec (pos 9) (pos 11) ∷ vec (pos 2) (pos 11) ∷ []) ≡ Some 1
  lowest_of_two : row (vec (pos 2) (pos 20) ∷ vec (pos 2) (pos 5) ∷ vec (pos 2) (pos 0) ∷ []) ≡ Some 0
  shared_end : row (vec (pos 9) (pos 2) ∷ vec (pos 4) (pos 2) ∷ vec (pos 9) (pos 9) ∷ []) ≡ Some 0
  between_both : row (vec (pos 0) (pos 5) ∷ vec (pos 4) (pos 7) ∷ []) ≡ None
  no_points_lem : lowest_touch [] [] (vec (pos 2) (pos 1) ∷ []) ≡ None
  from_runs : row (vertices 2 (kerb_runs (pos 2 ∷ pos 2 ∷ pos 9 ∷ []) (pos 20 ∷ pos 5 ∷ pos 0 ∷ []))) ≡ Some 1

rows : Rows
unfolding ranges_meet overlap touches vertices_from segments_from segments touches_one lowest_from lowest_touch
rows =
    record {
      point_between = refl;
      point_beside = refl;
      last_segment_alone = refl;
      lowest_of_two = refl;
      shared_end = refl;
      between_both = refl;
      no_points_lem = refl;
      from_runs = refl;
    }
