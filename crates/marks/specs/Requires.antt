-- What functions over points require of their callers: a place for each of them, in a mark and in an array.
use Rattle.std.specs.Prelude.{ℕ, ◌≤◌, ◌<◌}
use Rattle.marks.specs.Count.{point_capacity}
use Rattle.marks.specs.Marks.{mark_width}

pub record HasPlace (p : ℕ) : Type 0 where
  pub place : p < mark_width

-- a point that the arrays have room for, and no more points than that
pub record HasRoom (p : ℕ) : Type 0 where
  pub place : p < point_capacity

pub record Counted (n : ℕ) : Type 0 where
  pub most : n ≤ point_capacity

pub record HavePlaces (n : ℕ) : Type 0 where
  pub places : n ≤ mark_width
