-- The mark, the paper's word for the bits of the points that have crossed a station (01, "Stations and the widest place"): bit p is that of point p.
use Rattle.std.specs.Prelude.{ℕ, zero, suc, ◌+◌, ◌/◌, ◌%◌, ◌^◌, Bool, true, ◌&&◌, eqb}
use Rattle.number.specs.Read.{pick}

-- "Marks become 32 bits wide" (02, N3)
abbrev pub mark_width : ℕ
mark_width = 32

abbrev pub has_bit : ℕ → ℕ → Bool
has_bit p mark = eqb (mark / 2 ^ p % 2) 1

-- "the point's bit is set in its mark"
abbrev pub with_bit : ℕ → ℕ → ℕ
with_bit p mark = pick (has_bit p mark) mark (mark + 2 ^ p)

-- every bit of the points below n is set
unfoldable pub all_set : ℕ → ℕ → Bool
all_set zero mark = true
all_set (suc p) mark = all_set p mark && has_bit p mark

-- the bits from number n on
abbrev pub bits_from : ℕ → ℕ → ℕ
bits_from n mark = mark / 2 ^ n
