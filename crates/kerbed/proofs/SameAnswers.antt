-- Two answers of a job's and a kerb's bytes that say the same are the same. Assumes nothing.
use Prim.Native.Nat.{ℕ}
use mathlib.Core.Path.{◌≡◌, refl, ap, ap₂}
use native.Mathlib.Omega.{arith}
use Rattle.std.specs.Prelude.{Option, None, Some, Result, Ok, Err}
use Rattle.refusal.specs.Numbers.{number_of}
use Rattle.refusal.proofs.NumberLaws.{same_number}
use Rattle.run.proofs.SameAnswers.{same_stop}
use Rattle.kerb_report.specs.declared.Touch.{Touch}
use Rattle.swept.specs.declared.SweepRefusal.{SweepRefusal}
use Rattle.swept.specs.declared.SweepRefusal.TheVariants as R
use Rattle.kerbed.specs.Answers.{as_kerbed}

pub same_kerbed : (a b : Result (Option Touch) SweepRefusal) → as_kerbed a ≡ as_kerbed b → a ≡ b
same_kerbed (Ok None) (Ok None) h = refl
same_kerbed (Ok None) (Ok (Some u)) h = absurd (let z : ◌≡◌ {A = ℕ} 0 1 = cc in omega arith)
same_kerbed (Ok None) (Err (R.Stopped v)) h = absurd (let z : ◌≡◌ {A = ℕ} 0 1 = cc in omega arith)
same_kerbed (Ok None) (Err (R.Refused g)) h = absurd (let z : ◌≡◌ {A = ℕ} 0 1 = cc in omega arith)
same_kerbed (Ok (Some t)) (Ok None) h = absurd (let z : ◌≡◌ {A = ℕ} 0 1 = cc in omega arith)
same_kerbed (Ok (Some t)) (Ok (Some u)) h =
    let s : t.step ≡ u.step = cc in
    let p : t.point ≡ u.point = cc in
    ap₂ (λ s p. Ok (Some (record { step = s; point = p }))) s p
same_kerbed (Ok (Some t)) (Err (R.Stopped v)) h = absurd (let z : ◌≡◌ {A = ℕ} 0 1 = cc in omega arith)
same_kerbed (Ok (Some t)) (Err (R.Refused g)) h = absurd (let z : ◌≡◌ {A = ℕ} 0 1 = cc in omega arith)
same_kerbed (Err (R.Stopped s)) (Ok None) h = absurd (let z : ◌≡◌ {A = ℕ} 0 1 = cc in omega arith)
same_kerbed (Err (R.Stopped s)) (Ok (Some u)) h = absurd (let z : ◌≡◌ {A = ℕ} 0 1 = cc in omega arith)
same_kerbed (Err (R.Stopped s)) (Err (R.Stopped v)) h = ap (λ s. Err (R.Stopped s)) (same_stop s v (cc) (cc) (cc))
same_kerbed (Err (R.Stopped s)) (Err (R.Refused g)) h = absurd (let z : ◌≡◌ {A = ℕ} 0 1 = cc in omega arith)
same_kerbed (Err (R.Refused f)) (Ok None) h = absurd (let z : ◌≡◌ {A = ℕ} 0 1 = cc in omega arith)
same_kerbed (Err (R.Refused f)) (Ok (Some u)) h = absurd (let z : ◌≡◌ {A = ℕ} 0 1 = cc in omega arith)
same_kerbed (Err (R.Refused f)) (Err (R.Stopped v)) h = absurd (let z : ◌≡◌ {A = ℕ} 0 1 = cc in omega arith)
same_kerbed (Err (R.Refused r)) (Err (R.Refused q)) h =
    let f : number_of r.fault ≡ number_of q.fault = cc in
    let p : r.place ≡ q.place = cc in
    ap₂ (λ f p. Err (R.Refused (record { fault = f; place = p }))) (same_number r.fault q.fault f) p
