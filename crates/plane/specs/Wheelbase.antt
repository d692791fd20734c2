-- The range of a wheelbase (01, "The job record"), once for the field table of the job and for the geometry of a unit.
use Rattle.std.specs.Prelude.{ℕ, Bool, ◌&&◌, leb, ℤ, pos, ◌≤ℤ◌}

abbrev pub wheelbase_least : ℕ
wheelbase_least = 5000

abbrev pub wheelbase_most : ℕ
wheelbase_most = 200000

abbrev pub is_wheelbase : ℕ → Bool
is_wheelbase l = leb wheelbase_least l && leb l wheelbase_most

-- the same range, of a number that is in use as a wheelbase
pub record Wheelbase (l : ℤ) : Type 0 where
  pub least : pos wheelbase_least ≤ℤ l
  pub most : l ≤ℤ pos wheelbase_most
