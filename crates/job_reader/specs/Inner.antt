-- What the functions that are no entries ensure.
use Rattle.std.specs.Prelude.{ℕ, ◌≡◌, Bool, ℤ, FitsSigned}
use Rattle.std.specs.Int.{w32}
use Rattle.number.specs.Read.{Reader, ◌>>=◌, return}
use Rattle.number.specs.Field.{field}
use Rattle.job.specs.Announced.{announces, announced_form, announced_count}
use Rattle.job.specs.declared.Form.{Form}

-- the form, and how many units, that the first number announces
abbrev pub read_announced : Reader (Form × ℕ)
read_announced = do
  n ← field 3 announces
  return (announced_form n, announced_count n)

-- a test of a signed number of 32 bits that says what a definition does
abbrev pub Decides : (ℤ → Bool → Type 0) → (ℤ → Bool) → Type 0
Decides says allowed = (z : ℤ) → FitsSigned w32 z → (b : Bool) → says z b → b ≡ allowed z
