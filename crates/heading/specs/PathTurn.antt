-- The path turn, called by itself (01, "Why a job is turned down", last paragraph).
use Rattle.std.specs.Prelude.{ℕ, true, ◌≡◌, ℤ, pos, ◌*ℤ◌, ◌≤ℤ◌}
use Rattle.number.specs.Read.{pick}
use Rattle.plane.specs.declared.Vec2.{Vec2}
use Rattle.plane.specs.Length.{heading_length, has_length, Near}
use Rattle.job.specs.Allowed.{between}
use Rattle.job.specs.Curves.{radius_allowed}
use Rattle.refusal.specs.Numbers.{Answer, answered, refused}
use Rattle.heading.specs.declared.Advance.{Advance}
use Rattle.heading.specs.Turn.{heading_after, move_of}

-- a step of length s on radius r: the new heading and the move
abbrev pub advance_of : Vec2 → ℤ → ℤ → Advance
advance_of g s r = record { heading = heading_after g s r; shift = move_of g (heading_after g s r) s }

-- 6 for a wrong heading, 7 for s outside 1 to 20,000, 8 for the radius
unfoldable pub path_turn : Vec2 → ℕ → ℤ → Answer Advance
path_turn g s r =
    pick (has_length g heading_length)
    (pick (between 1 20000 s)
    (pick (radius_allowed r) (answered (advance_of g (pos s) r)) (refused 8))
    (refused 7))
    (refused 6)

-- what a step on the path asks, once it has been tested
pub record Steerable (g : Vec2) (s r : ℤ) : Type 0 where
  pub heading : Near g heading_length (pos 2 *ℤ heading_length)
  pub least : pos 1 ≤ℤ s
  pub most : s ≤ℤ pos 20000
  pub radius : radius_allowed r ≡ true

-- what the move between two headings asks
pub record Movable (g h : Vec2) (s : ℤ) : Type 0 where
  pub old : Near g heading_length (pos 2 *ℤ heading_length)
  pub new : Near h heading_length (pos 2 *ℤ heading_length)
  pub least : pos 1 ≤ℤ s
  pub most : s ≤ℤ pos 20000
