-- Two answers of placing that say the same are the same. Assumes nothing.
use Prim.Native.Nat.{ℕ}
use mathlib.Core.Path.{◌≡◌, refl, ap}
use native.Mathlib.Omega.{arith}
use Rattle.std.specs.Prelude.{Result, Ok, Err}
use Rattle.refusal.specs.declared.Fault.{Fault}
use Rattle.refusal.proofs.NumberLaws.{same_number}
use Rattle.stations.specs.Placing.{as_placed}

pub same_placed : (a b : Result (Unit {0}) Fault) → as_placed a ≡ as_placed b → a ≡ b
same_placed (Ok a) (Ok b) h = refl
same_placed (Ok a) (Err g) h = absurd (let z : ◌≡◌ {A = ℕ} 0 1 = cc in omega arith)
same_placed (Err f) (Ok b) h = absurd (let z : ◌≡◌ {A = ℕ} 0 1 = cc in omega arith)
same_placed (Err f) (Err g) h = ap Err (same_number f g cc)
