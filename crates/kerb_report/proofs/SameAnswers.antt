-- Two answers of the kerb report that say the same are the same. Assumes nothing.
use Prim.Native.Nat.{ℕ}
use mathlib.Core.Path.{◌≡◌, refl, ap, ap₂}
use native.Mathlib.Omega.{arith}
use Rattle.std.specs.Prelude.{Option, None, Some, Result, Ok, Err}
use Rattle.refusal.proofs.NumberLaws.{same_number}
use Rattle.run.proofs.SameAnswers.{same_stop}
use Rattle.run.specs.declared.RunRefusal.{RunRefusal}
use Rattle.run.specs.declared.RunRefusal.TheVariants as R
use Rattle.kerb_report.specs.declared.Touch.{Touch}
use Rattle.kerb_report.specs.Answers.{as_report}

pub same_report : (a b : Result (Option Touch) RunRefusal) → as_report a ≡ as_report b → a ≡ b
same_report (Ok None) (Ok None) h = refl
same_report (Ok None) (Ok (Some u)) h = absurd (let z : ◌≡◌ {A = ℕ} 0 1 = cc in omega arith)
same_report (Ok None) (Err (R.Stopped v)) h = absurd (let z : ◌≡◌ {A = ℕ} 0 1 = cc in omega arith)
same_report (Ok None) (Err (R.Refused g)) h = absurd (let z : ◌≡◌ {A = ℕ} 0 1 = cc in omega arith)
same_report (Ok (Some t)) (Ok None) h = absurd (let z : ◌≡◌ {A = ℕ} 0 1 = cc in omega arith)
same_report (Ok (Some t)) (Ok (Some u)) h =
    let s : t.step ≡ u.step = cc in
    let p : t.point ≡ u.point = cc in
    ap₂ (λ s p. Ok (Some (record { step = s; point = p }))) s p
same_report (Ok (Some t)) (Err (R.Stopped v)) h = absurd (let z : ◌≡◌ {A = ℕ} 0 1 = cc in omega arith)
same_report (Ok (Some t)) (Err (R.Refused g)) h = absurd (let z : ◌≡◌ {A = ℕ} 0 1 = cc in omega arith)
same_report (Err (R.Stopped s)) (Ok None) h = absurd (let z : ◌≡◌ {A = ℕ} 0 1 = cc in omega arith)
same_report (Err (R.Stopped s)) (Ok (Some u)) h = absurd (let z : ◌≡◌ {A = ℕ} 0 1 = cc in omega arith)
same_report (Err (R.Stopped s)) (Err (R.Stopped v)) h = ap (λ s. Err (R.Stopped s)) (same_stop s v (cc) (cc) (cc))
same_report (Err (R.Stopped s)) (Err (R.Refused g)) h = absurd (let z : ◌≡◌ {A = ℕ} 0 1 = cc in omega arith)
same_report (Err (R.Refused f)) (Ok None) h = absurd (let z : ◌≡◌ {A = ℕ} 0 1 = cc in omega arith)
same_report (Err (R.Refused f)) (Ok (Some u)) h = absurd (let z : ◌≡◌ {A = ℕ} 0 1 = cc in omega arith)
same_report (Err (R.Refused f)) (Err (R.Stopped v)) h = absurd (let z : ◌≡◌ {A = ℕ} 0 1 = cc in omega arith)
same_report (Err (R.Refused f)) (Err (R.Refused g)) h = ap (λ f. Err (R.Refused f)) (same_number f g cc)
