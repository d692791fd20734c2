-- The size of a whole number.
use Rattle.std.specs.Prelude.{ℕ, ◌≤◌, ℤ, nat_abs}

-- |z| ≤ b
pub record Within (b : ℕ) (z : ℤ) : Type 0 where
  pub size : nat_abs z ≤ b
