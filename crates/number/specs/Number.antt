-- "All figures in the record are whole numbers in seven-bit groups, lowest group first; the top bit of a byte says another follows. At most five
-- groups, value at most 4,294,967,295, shortest form only" (01, "The job record"). 1: the bytes end before the field does; 2: the field is not in
-- shortest form, over five groups or too large; each is placed where the field starts (01, "Why a job is turned down").
use Rattle.std.specs.Prelude.{ℕ, zero, suc, ◌+◌, ◌*◌, ◌%◌, ◌/◌, List, [], ◌∷◌, length, get_or, ltb}
use Rattle.number.specs.Read.{Read, got, refused, Reader, pick}

-- the group g below the groups that follow it; where those come to 0 they were not needed
abbrev pub onto : ℕ → ℕ → Read ℕ → Read ℕ
onto from g (refused n p) = refused n p
onto from g (got zero e) = refused 2 from
onto from g (got (suc v) e) = got (g + 128 * suc v) e

-- at most k groups, of the field that starts at `from`
unfoldable pub groups : ℕ → ℕ → Reader ℕ
groups from zero s at = refused 2 from
groups from (suc k) s at =
    pick (ltb at (length s))
    (pick (ltb (get_or s at 0) 128) (got (get_or s at 0) (at + 1)) (onto from (get_or s at 0 % 128) (groups from k s (at + 1))))
    (refused 1 from)

-- refused where the value is too large
abbrev pub below32 : ℕ → Read ℕ → Read ℕ
below32 from (refused n p) = refused n p
below32 from (got v e) = pick (ltb v 4294967296) (got v e) (refused 2 from)

unfoldable pub read_number : Reader ℕ
read_number s at = below32 at (groups at 5 s at)

-- the groups of x, at most k + 1 of them
unfoldable pub write_groups : ℕ → ℕ → List ℕ
write_groups zero x = x ∷ []
write_groups (suc k) x = pick (ltb x 128) (x ∷ []) ((x % 128 + 128) ∷ write_groups k (x / 128))

unfoldable pub write_number : ℕ → List ℕ
write_number x = write_groups 4 x
