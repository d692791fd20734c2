-- A number that can be stored in a run fits 32 bits.
use Prim.Native.Nat.{ℕ}
use native.Mathlib.Omega.{arith}
use lib.Dec.{leb→le}
use lib.IntN.{ℤ, pos, negsuc}
use lib.Signed.{◌≤ℤ◌}
use mir.Syntax.{w32}
use mir.Val.{SFits}
use Rattle.plane.specs.Run.{Stored}

range_fits : (v : ℤ) → negsuc 2147483647 ≤ℤ v → v ≤ℤ pos 2147483647 → SFits w32 v
range_fits (pos n) l h = record { sfits = omega (arith, leb→le n 2147483647 h.le) }
range_fits (negsuc n) l h = record { sfits = omega (arith, leb→le n 2147483647 l.le) }

pub stored_fits : {i n : ℕ} {v : ℤ} → Stored i n v → SFits w32 v
stored_fits {i} {n} {v} s = range_fits v s.least s.most
