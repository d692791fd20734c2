-- Two answers of a step call that say the same are the same. Assumes nothing.
use Prim.Native.Nat.{ℕ}
use mathlib.Core.Path.{◌≡◌, refl, ap, ap₂}
use native.Mathlib.Omega.{arith}
use Rattle.std.specs.Prelude.{Result, Ok, Err}
use Rattle.refusal.specs.Numbers.{number_of}
use Rattle.refusal.proofs.NumberLaws.{same_number}
use Rattle.walk.specs.declared.StepRefusal.{StepRefusal}
use Rattle.walk.specs.declared.StepRefusal.TheVariants as S
use Rattle.walk.specs.Drawn.{outcome_of}

pub same_outcome : (a b : Result (Unit {0}) StepRefusal) → outcome_of a ≡ outcome_of b → a ≡ b
same_outcome (Ok a) (Ok b) h = refl
same_outcome (Ok a) (Err (S.Call g)) h = absurd (let z : ◌≡◌ {A = ℕ} 0 1 = cc in omega arith)
same_outcome (Ok a) (Err (S.Unit q)) h = absurd (let z : ◌≡◌ {A = ℕ} 0 1 = cc in omega arith)
same_outcome (Err (S.Call f)) (Ok b) h = absurd (let z : ◌≡◌ {A = ℕ} 0 1 = cc in omega arith)
same_outcome (Err (S.Call f)) (Err (S.Call g)) h = ap (λ f. Err (S.Call f)) (same_number f g cc)
same_outcome (Err (S.Call f)) (Err (S.Unit q)) h = absurd (let z : ◌≡◌ {A = ℕ} 0 1 = cc in omega arith)
same_outcome (Err (S.Unit r)) (Ok b) h = absurd (let z : ◌≡◌ {A = ℕ} 0 1 = cc in omega arith)
same_outcome (Err (S.Unit r)) (Err (S.Call g)) h = absurd (let z : ◌≡◌ {A = ℕ} 0 1 = cc in omega arith)
same_outcome (Err (S.Unit r)) (Err (S.Unit q)) h =
    let f : number_of r.fault ≡ number_of q.fault = cc in
    let u : r.unit ≡ q.unit = cc in
    ap₂ (λ f u. Err (S.Unit (record { fault = f; unit = u }))) (same_number r.fault q.fault f) u
