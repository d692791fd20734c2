-- What the functions that are no entries require of their callers.
use Rattle.std.specs.Prelude.{ℕ, ◌+◌, ◌≤◌, List, length}

-- a field has at most five groups
pub record GroupsLeft (left : ℕ) : Type 0 where
  pub most : left ≤ 5

-- bytes written at a position end within a run of so many
pub record Room (bytes : List ℕ) (at size : ℕ) : Type 0 where
  pub ends : at + length bytes ≤ size
