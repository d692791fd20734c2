-- What the functions that are no entries require of their callers.
use Rattle.std.specs.Prelude.{ℕ, ◌≤◌, ◌<◌, ◌^◌}

-- a step to divide by, and a total that has room for one element's steps
pub record Countable (step total : ℕ) : Type 0 where
  pub positive : 0 < step
  pub room : total ≤ 2 ^ 63

-- no more units than a vehicle has places
pub record UnitsInUse (count : ℕ) : Type 0 where
  pub most : count ≤ 4

-- no more elements than a job has places, and a step to divide by
pub record ElementsInUse (step count : ℕ) : Type 0 where
  pub positive : 0 < step
  pub most : count ≤ 64
