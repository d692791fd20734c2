-- What the functions that are no entries require of their callers.
use Rattle.std.specs.Prelude.{ℕ, ◌+◌, ◌≤◌, List, length}

-- a text written at a position ends within a run of so many bytes
pub record Room (text : List ℕ) (at size : ℕ) : Type 0 where
  pub ends : at + length text ≤ size
