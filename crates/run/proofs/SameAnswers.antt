-- Two answers of a run that say the same are the same. Assumes nothing.
use Prim.Native.Nat.{ℕ}
use mathlib.Core.Path.{◌≡◌, ap, ap₂, ◌∙◌}
use native.Mathlib.Omega.{arith}
use Rattle.std.specs.Prelude.{Result, Ok, Err}
use Rattle.refusal.specs.Numbers.{number_of}
use Rattle.refusal.proofs.NumberLaws.{same_number}
use Rattle.run.specs.declared.Finish.{Finish}
use Rattle.run.specs.declared.Stop.{Stop}
use Rattle.run.specs.declared.RunRefusal.{RunRefusal}
use Rattle.run.specs.declared.RunRefusal.TheVariants as R
use Rattle.run.specs.Ran.{as_ran}

pub same_stop : (s t : Stop) → number_of s.fault ≡ number_of t.fault → s.unit ≡ t.unit → s.step ≡ t.step → s ≡ t
same_stop s t f u k =
    ap₂ (λ f u. record { fault = f; unit = u; step = s.step }) (same_number s.fault t.fault f) u ∙ ap (λ k. record { fault = t.fault; unit = t.unit; step = k }) k

pub same_ran : (a b : Result Finish RunRefusal) → as_ran a ≡ as_ran b → a ≡ b
same_ran (Ok a) (Ok b) h = let e : a ≡ b = cc in ap Ok e
same_ran (Ok a) (Err (R.Stopped t)) h = absurd (let z : ◌≡◌ {A = ℕ} 0 1 = cc in omega arith)
same_ran (Ok a) (Err (R.Refused g)) h = absurd (let z : ◌≡◌ {A = ℕ} 0 1 = cc in omega arith)
same_ran (Err (R.Stopped s)) (Ok b) h = absurd (let z : ◌≡◌ {A = ℕ} 0 1 = cc in omega arith)
same_ran (Err (R.Stopped s)) (Err (R.Stopped t)) h = ap (λ s. Err (R.Stopped s)) (same_stop s t (cc) (cc) (cc))
same_ran (Err (R.Stopped s)) (Err (R.Refused g)) h = absurd (let z : ◌≡◌ {A = ℕ} 0 1 = cc in omega arith)
same_ran (Err (R.Refused f)) (Ok b) h = absurd (let z : ◌≡◌ {A = ℕ} 0 1 = cc in omega arith)
same_ran (Err (R.Refused f)) (Err (R.Stopped t)) h = absurd (let z : ◌≡◌ {A = ℕ} 0 1 = cc in omega arith)
same_ran (Err (R.Refused f)) (Err (R.Refused g)) h = ap (λ f. Err (R.Refused f)) (same_number f g cc)
