-- The test of two ranges, by the least and the largest of their ends.
use Prim.Native.Nat.{◌^◌, ◌<◌}
use mathlib.Core.Path.{◌≡◌}
use native.Mathlib.Omega.{arith}
use lib.IntN.{ℤ}
use lib.Signed.{mag, le_z}
use mir.Syntax.{w64}
use mir.Val.{SFits}
use mir.Facts.{to_z-of_z}
use Rattle.std.specs.Int.{int_min, int_max}
use Rattle.std.proofs.lemmas.Int.{ints}
use Rattle.exact.proofs.Machine.{reread, reread_result}
use Rattle.touching.specs.Touch.{some_at_most}

-- some end of the first is at most some end of the second where its least is at most the other's largest
least_is : (a b c d : ℤ) → le_z (int_min a b) (int_max c d) ≡ some_at_most a b c d
least_is a b c d = grind (arith, ints)

-- as the code has them, each number read back from its bits
pub ends_told : (a b c d least most : ℤ) → SFits w64 a → SFits w64 b → SFits w64 c → SFits w64 d → mag least < 2 ^ 63 → mag most < 2 ^ 63
    → least ≡ int_min (reread a) (reread b) → most ≡ int_max (reread c) (reread d) → le_z (reread least) (reread most) ≡ some_at_most a b c d
ends_told a b c d least most A B C D l m e f =
    let E : least ≡ int_min a b = simp (to_z-of_z, A, B) at e in
    let F : most ≡ int_max c d = simp (to_z-of_z, C, D) at f in
    rw (reread_result l E, reread_result m F) (least_is a b c d)
