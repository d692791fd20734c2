-- The cuts of an element, one at a time: from b ticks on, a full step while there is one, then what is left.
use Prim.Native.Nat.{ℕ, zero, suc, ◌+◌, ◌*◌, ◌-◌, ◌/◌, ◌%◌, ◌≤◌, ◌<◌}
use mathlib.Core.Path.{◌≡◌, refl, ◌∙◌, ap, ap₂}
use mathlib.Core.List.{[], ◌∷◌, ◌++◌}
use native.Mathlib.Nat as NatL
use native.Mathlib.Omega.{arith}
use native.Mathlib.Numerals.{add-one}
use lib.Dec.{eqb}
use lib.ListN.{length, length-append}
use borrow.Author.Tests.{ne_eqb}
use Rattle.number.specs.Read.{pick}
use Rattle.job.specs.Steps.{steps_of}
use Rattle.path.specs.Cuts.{cut, full_steps, shorter_step, cuts_from, cuts}

-- one more full step
full_next : (step b q r : ℕ) → full_steps step (suc q) b ++ shorter_step r (b + suc q * step) ≡ cut b step ∷ (full_steps step q (b + step) ++ shorter_step r (b + step + q * step))
unfolding full_steps
full_next step b q r = ap (λ (k : ℕ). cut b step ∷ (full_steps step q (b + step) ++ shorter_step r k)) {x = b + suc q * step} {y = b + step + q * step} (omega arith)

pub cuts_full : (step b n : ℕ) → 0 < step → step ≤ n → cuts_from step b n ≡ cut b step ∷ cuts_from step (b + step) (n - step)
unfolding cuts_from
cuts_full step b n p h =
    let q : n / step ≡ suc ((n - step) / step) = NatL.div-eq-sub-div p h ∙ add-one ((n - step) / step) in
    let r : n % step ≡ (n - step) % step = NatL.mod-eq-sub-mod h in
    rw (q, r) (full_next step b ((n - step) / step) ((n - step) % step))

pub cuts_last : (step b n : ℕ) → 0 < n → n < step → cuts_from step b n ≡ cut b n ∷ []
unfolding cuts_from full_steps
cuts_last step b (suc n) p h =
    rw (NatL.div-eq_of_lt h, NatL.mod-eq_of_lt h) (ap (λ (k : ℕ). cut k (suc n) ∷ []) {x = b + 0 * step} {y = b} (omega arith))
cuts_last step b zero p h = absurd (omega arith)

pub cuts_none : (step b : ℕ) → 0 < step → cuts_from step b 0 ≡ []
unfolding cuts_from full_steps
cuts_none step b p = rw (NatL.div-eq_of_lt p, NatL.mod-eq_of_lt p)

-- as many as the job counts
full_count : (step k b : ℕ) → length (full_steps step k b) ≡ k
unfolding full_steps
full_count step zero b = refl
full_count step (suc k) b = ap suc (full_count step k (b + step))

shorter_count : (r b : ℕ) → length (shorter_step r b) ≡ pick (eqb r 0) 0 1
shorter_count zero b = refl
shorter_count (suc r) b = rw (ne_eqb (suc r) 0 (λ e. omega arith))

pub cuts_count : (step n : ℕ) → length (cuts step n) ≡ steps_of step n
unfolding cuts_from
cuts_count step n =
    length-append (full_steps step (n / step) 0) (shorter_step (n % step) (0 + n / step * step))
    ∙ ap₂ (λ (a b : ℕ). a + b) (full_count step (n / step) 0) (shorter_count (n % step) (0 + n / step * step))
