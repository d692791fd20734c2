-- "A signed field holds 2n for n ≥ 0 and −2n − 1 for n < 0" (01, "The job record"). `negsuc k` is n = −(k + 1), of which −2n − 1 is 2k + 1.
use Rattle.std.specs.Prelude.{ℕ, ◌+◌, ◌*◌, ◌%◌, ◌/◌, List, ℤ, pos, negsuc, eqb}
use Rattle.number.specs.Read.{pick}
use Rattle.number.specs.Number.{write_number}

abbrev pub field_of : ℤ → ℕ
field_of (pos n) = 2 * n
field_of (negsuc k) = 2 * k + 1

abbrev pub signed_of : ℕ → ℤ
signed_of x = pick (eqb (x % 2) 0) (pos (x / 2)) (negsuc (x / 2))

abbrev pub write_signed : ℤ → List ℕ
write_signed z = write_number (field_of z)
