-- Worked rows: bytes to a float, and metres, by their bits, to ticks. Only here is the rule for halves unfolded.
use mathlib.Core.Path.{◌≡◌, refl}
use mathlib.Core.List.{[], ◌∷◌}
use mathlib.Core.Bool.{false}
use mathlib.Core.Option.{some, none}
use lib.IntN.{negsuc}
use lib.Ieee.{of_bits, mul, fin}
use Rattle.exact.specs.Nearest.{half_to, nearest_size, nearest_z}
use Rattle.metres.specs.Bytes.{little_endian, finite_of, metres_at}
use Rattle.metres.specs.Tick.{tick_of, nearest_whole}
use Rattle.metres.specs.Worked.{WorkedTicks}

-- 1.5 after one byte; and an infinity
float_read : metres_at (1 ∷ 0 ∷ 0 ∷ 0 ∷ 0 ∷ 0 ∷ 0 ∷ 0xF8 ∷ 0x3F ∷ []) 1 ≡ some (fin false 3 (negsuc 0))
unfolding metres_at finite_of little_endian of_bits
float_read = refl

infinity_read : metres_at (0 ∷ 0 ∷ 0 ∷ 0 ∷ 0 ∷ 0 ∷ 0xF0 ∷ 0x7F ∷ []) 0 ≡ none
unfolding metres_at finite_of little_endian of_bits
infinity_read = refl

pub worked : WorkedTicks
unfolding tick_of nearest_whole nearest_z nearest_size half_to of_bits mul
worked = record { below = refl; above = refl; most = refl; zero = refl; half = refl; half_below = refl }
