-- Two answers of a job's bytes that say the same are the same. Assumes nothing.
use Prim.Native.Nat.{ℕ}
use mathlib.Core.Path.{◌≡◌, ap, ap₂}
use native.Mathlib.Omega.{arith}
use Rattle.std.specs.Prelude.{Result, Ok, Err}
use Rattle.refusal.specs.Numbers.{number_of}
use Rattle.refusal.proofs.NumberLaws.{same_number}
use Rattle.run.specs.declared.Finish.{Finish}
use Rattle.run.proofs.SameAnswers.{same_stop}
use Rattle.swept.specs.declared.SweepRefusal.{SweepRefusal}
use Rattle.swept.specs.declared.SweepRefusal.TheVariants as R
use Rattle.swept.specs.Answers.{as_swept}

pub same_swept : (a b : Result Finish SweepRefusal) → as_swept a ≡ as_swept b → a ≡ b
same_swept (Ok a) (Ok b) h = let e : a ≡ b = cc in ap Ok e
same_swept (Ok a) (Err (R.Stopped t)) h = absurd (let z : ◌≡◌ {A = ℕ} 0 1 = cc in omega arith)
same_swept (Ok a) (Err (R.Refused q)) h = absurd (let z : ◌≡◌ {A = ℕ} 0 1 = cc in omega arith)
same_swept (Err (R.Stopped s)) (Ok b) h = absurd (let z : ◌≡◌ {A = ℕ} 0 1 = cc in omega arith)
same_swept (Err (R.Stopped s)) (Err (R.Stopped t)) h = ap (λ s. Err (R.Stopped s)) (same_stop s t (cc) (cc) (cc))
same_swept (Err (R.Stopped s)) (Err (R.Refused q)) h = absurd (let z : ◌≡◌ {A = ℕ} 0 1 = cc in omega arith)
same_swept (Err (R.Refused r)) (Ok b) h = absurd (let z : ◌≡◌ {A = ℕ} 0 1 = cc in omega arith)
same_swept (Err (R.Refused r)) (Err (R.Stopped t)) h = absurd (let z : ◌≡◌ {A = ℕ} 0 1 = cc in omega arith)
same_swept (Err (R.Refused r)) (Err (R.Refused q)) h =
    let f : number_of r.fault ≡ number_of q.fault = cc in
    let p : r.place ≡ q.place = cc in
    ap₂ (λ f p. Err (R.Refused (record { fault = f; place = p }))) (same_number r.fault q.fault f) p
