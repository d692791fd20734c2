-- What the functions that are no entries require of their callers.
use Rattle.std.specs.Prelude.{ℕ, ◌+◌, ◌≤◌}

-- k entries from `at` on, in a run of n
pub record Room (at k n : ℕ) : Type 0 where
  pub room : at + k ≤ n

-- a byte, or a unit and a step, that one number holds beside a refusal's own
pub record ByteFits (p : ℕ) : Type 0 where
  pub byte : p ≤ 16777215

pub record UnitFits (u k : ℕ) : Type 0 where
  pub unit : u ≤ 4
  pub step : k ≤ 2000
