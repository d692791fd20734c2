-- Two answers that say the same are the same. Assumes nothing.
use Prim.Native.Nat.{ℕ}
use mathlib.Core.Path.{◌≡◌, ap, ap₂}
use native.Mathlib.Omega.{arith}
use Rattle.std.specs.Prelude.{Result, Ok, Err}
use Rattle.refusal.specs.Numbers.{number_of}
use Rattle.refusal.specs.declared.Refusal.{Refusal}
use Rattle.refusal.proofs.NumberLaws.{same_number}
use Rattle.job.specs.declared.Job.{Job}
use Rattle.job_reader.specs.Answers.{as_job}

pub same_answer : (n m : ℕ) (r q : Result Job Refusal) → as_job n r ≡ as_job m q → r ≡ q
same_answer n m (Ok j) (Ok k) h = let e : j ≡ k = cc in ap Ok e
same_answer n m (Ok j) (Err b) h = absurd (let z : ◌≡◌ {A = ℕ} 0 1 = cc in omega arith)
same_answer n m (Err a) (Ok k) h = absurd (let z : ◌≡◌ {A = ℕ} 0 1 = cc in omega arith)
same_answer n m (Err a) (Err b) h =
    let f : number_of a.fault ≡ number_of b.fault = cc in
    let p : a.place ≡ b.place = cc in
    ap₂ (λ f p. Err (record { fault = f; place = p })) (same_number a.fault b.fault f) p
