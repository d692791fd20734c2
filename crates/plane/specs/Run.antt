-- Lent runs of signed 32-bit numbers (01, "Stations and the widest place").
use Rattle.std.specs.Prelude.{ℕ, ◌<◌, ℤ, pos, negsuc, ◌≤ℤ◌}

-- what reading entry i of a run of n entries asks
pub record Entry (i n : ℕ) : Type 0 where
  pub inside : i < n

-- what writing v there asks: v is any signed 32-bit number
pub record Stored (i n : ℕ) (v : ℤ) : Type 0 where
  pub inside : i < n
  pub least : negsuc 2147483647 ≤ℤ v
  pub most : v ≤ℤ pos 2147483647
