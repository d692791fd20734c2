-- Each requirement of this crate can be met.
use lib.IntN.{pos}
use lib.Signed.{le_z_yes}
use Rattle.exact.specs.Nearest.{Divisor}

pub divisor_met : Divisor (pos 1)
divisor_met = record { positive = le_z_yes tt }
