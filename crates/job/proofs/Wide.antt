-- A signed number of 32 bits, made one of 64. Assumes nothing.
use mathlib.Core.Path.{◌≡◌}
use native.Mathlib.Omega.{arith}
use lib.IntN.{ℤ}
use mir.Syntax.{w32, w64}
use mir.Val.{SFits, to_z, of_z}
use mir.ValLaws.{to_z-of_z}

pub wide_fits : (z : ℤ) → SFits w32 z → SFits w64 z
wide_fits z f = record { sfits = omega (arith, f.sfits) }

pub wide : (z : ℤ) → SFits w32 z → to_z w64 (of_z w64 (to_z w32 (of_z w32 z))) ≡ z
wide z f = rw (to_z-of_z w32 z f) (to_z-of_z w64 z (wide_fits z f))
