-- "Fields are taken in order; within one, 1, 2, then its range" (01, "Why a job is turned down").
use Rattle.std.specs.Prelude.{ℕ, Bool, ◌&&◌, leb, ℤ, nat_abs}
use Rattle.number.specs.Read.{Reader, ◌>>=◌, return, here, unless}
use Rattle.number.specs.Number.{read_number}
use Rattle.number.specs.Signed.{signed_of}
use Rattle.number.specs.declared.Range.{Range}

abbrev pub within : Range → ℕ → Bool
within r v = leb r.least v && leb v r.most

abbrev pub size_at_most : ℕ → ℤ → Bool
size_at_most most z = leb (nat_abs z) most

-- a number that meets a test; where it fails, the refusal is placed at the field's own start
unfoldable pub field : ℕ → (ℕ → Bool) → Reader ℕ
field fault allowed = do
  at ← here
  v ← read_number
  unless (allowed v) fault at (return v)

unfoldable pub signed_number : Reader ℤ
signed_number = do
  v ← read_number
  return (signed_of v)

unfoldable pub signed_field : ℕ → (ℤ → Bool) → Reader ℤ
signed_field fault allowed = do
  at ← here
  z ← signed_number
  unless (allowed z) fault at (return z)
