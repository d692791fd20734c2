-- Worked numbers (01, "Rigs to try"): D0 86 03 is 50,000; 81 00 is refused by 2; the signed byte 01 is −1. Assumes nothing.
use mathlib.Core.Path.{◌≡◌, refl}
use mathlib.Core.List.{[], ◌∷◌}
use lib.IntN.{negsuc}
use Rattle.number.specs.Read.{got, refused}
use Rattle.number.specs.Number.{groups, read_number}
use Rattle.number.specs.Field.{signed_number}

pub fifty_thousand : read_number (0xD0 ∷ 0x86 ∷ 0x03 ∷ []) 0 ≡ got 50000 3
unfolding groups read_number
fifty_thousand = refl

pub not_shortest : read_number (0x81 ∷ 0x00 ∷ []) 0 ≡ refused 2 0
unfolding groups read_number
not_shortest = refl

pub minus_one : signed_number (0x01 ∷ []) 0 ≡ got (negsuc 0) 1
unfolding groups read_number signed_number
minus_one = refl

-- a fifth group with its top bit set is 2, also where the bytes end with it; four such groups and no more bytes are 1
pub sixth_group : read_number (0x80 ∷ 0x80 ∷ 0x80 ∷ 0x80 ∷ 0x80 ∷ []) 0 ≡ refused 2 0
unfolding groups read_number
sixth_group = refl

pub cut_short : read_number (0x80 ∷ 0x80 ∷ 0x80 ∷ 0x80 ∷ []) 0 ≡ refused 1 0
unfolding groups read_number
cut_short = refl

pub too_large_lem : read_number (0x80 ∷ 0x80 ∷ 0x80 ∷ 0x80 ∷ 0x10 ∷ []) 0 ≡ refused 2 0
unfolding groups read_number
too_large_lem = refl
