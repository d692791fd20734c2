-- The laws of `exact` on fractions, of a size with its sign.
use Prim.Native.Nat.{ℕ, ◌*◌, ◌<◌}
use mathlib.Core.Path.{◌≡◌}
use mathlib.Core.Bool.{Bool, true, false}
use lib.IntN.{pos}
use Rattle.exact.specs.Nearest.{nearest_z}
use Rattle.exact.proofs.Fractions as F
use Rattle.metres.specs.Tick.{signed}

pub same_nearest : (a b c d : ℕ) → 0 < b → 0 < d → a * d ≡ c * b → (s : Bool) → nearest_z (signed s a) (pos b) ≡ nearest_z (signed s c) (pos d)
same_nearest a b c d B D e false = F.same_nearest a b c d B D e
same_nearest a b c d B D e true = F.same_nearest_below a b c d B D e

pub nearest_zero : (a d : ℕ) → 2 * a < d → (s : Bool) → nearest_z (signed s a) (pos d) ≡ pos 0
nearest_zero a d h false = F.nearest_zero a d h
nearest_zero a d h true = F.nearest_zero_below a d h
