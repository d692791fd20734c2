-- Each requirement of this crate can be met.
use native.Mathlib.Omega.{arith}
use lib.IntN.{pos}
use lib.Ieee.{fin}
use mathlib.Core.Bool.{true}
use Rattle.metres.specs.Bytes.{Bytes}
use Rattle.metres.specs.Tick.{metres_most, Sized, size_at_most, VertexWithin}

bytes_met : Bytes 8 5 13
bytes_met = record { most = omega arith; ends = omega arith }

-- −15,000
sized_met : Sized metres_most (fin true 1875 (pos 3))
unfolding size_at_most
sized_met = record { sized = tt }

vertex_met : VertexWithin (record { x = fin true 1875 (pos 3); y = fin true 1875 (pos 3) })
vertex_met = record { x = sized_met; y = sized_met }
