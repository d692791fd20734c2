-- The outcomes of the writer. Assumes nothing.
use Prim.Native.Nat.{ℕ, zero, suc, ◌≤◌}
use mathlib.Core.Path.{◌≡◌, refl, ◌∙◌, ap}
use mathlib.Core.List.{List, ◌++◌}
use Rattle.std.proofs.lemmas.List.Edits.{sets-eq}
use native.Mathlib.Nat.{zero-add}
use lib.ListN.{length, take, drop, replicate}
use lib.Seq.{sets}
use Rattle.number.proofs.CodecMany.{take_sets}
use Rattle.job.specs.declared.Job.{Job}
use Rattle.job_writer.specs.Write.{write_job}
use Rattle.job_writer.specs.Encoding.{appended, nothing}
use Rattle.job_writer.specs.Answers.{write_fault, wrote, run_after, WriteEnsures}
use Rattle.job_writer.specs.declared.encode.Encoded.{Encoded}
use native.Mathlib.Omega.{arith}
use Rattle.std.specs.Prelude.{Result, Ok, Err}
use Rattle.refusal.specs.declared.Fault.{Fault}
use Rattle.refusal.specs.Numbers.{number_of, answered, refused, as_answer}
use Rattle.job.proofs.FaultLaws.{numbered}

module _ (j : Job) (before : List ℕ) (four : length j.vehicle.units ≡ 4) (sixty_four : length j.elements ≡ 64) where
  refused_answer : (f n : ℕ) → (f ≡ 0 → ⊥) → refused f ≡ wrote f n
  refused_answer zero n h = absurd (h refl)
  refused_answer (suc f) n h = refl

  refused_run : (f : ℕ) (bytes : List ℕ) → (f ≡ 0 → ⊥) → before ≡ run_after f bytes before
  refused_run zero bytes h = absurd (h refl)
  refused_run (suc f) bytes h = refl

  pub refuses : (f : Fault) → write_fault j (length before) ≡ number_of f → WriteEnsures j before (Err f) before
  refuses f e = record {
    answer = rw e (refused_answer (number_of f) (length (write_job j)) (numbered f));
    written = rw e (refused_run (number_of f) (write_job j) (numbered f));
    units = four;
    elements = sixty_four;
  }

  pub writes : {count : ℕ} {after : List ℕ} → write_fault j (length before) ≡ 0 → count ≡ length (write_job j) → after ≡ sets before 0 (write_job j) → WriteEnsures j before (Ok count) after
  writes e n a = record { answer = rw (e, n); written = rw (e, a); units = four; elements = sixty_four }

-- an answer that holds a value
pub told : (w : Result ℕ Fault) (n : ℕ) → as_answer w ≡ answered n → w ≡ Ok n
told (Ok m) n p = cc
told (Err f) n p = absurd (let z : ◌≡◌ {A = ℕ} 0 1 = cc in omega arith)

-- what was encoded, and how many bytes of the array it is
pub encoded_count : (e : Encoded) (bytes : List ℕ) → e ≡ appended nothing bytes → e.at ≡ length bytes
unfolding nothing
encoded_count e bytes p = ap (λ (x : Encoded). x.at) p ∙ zero-add (length bytes)

pub encoded_bytes : (e : Encoded) (bytes : List ℕ) → e ≡ appended nothing bytes → length bytes ≤ 520 → take e.at e.bytes ≡ bytes
unfolding nothing
encoded_bytes e bytes p h = rw (encoded_count e bytes p, ap (λ (x : Encoded). x.bytes) p) (take_sets (replicate 520 0) bytes (length bytes) refl h)

-- bytes at the start of a run, before what is left of it
pub put_first : (bytes run : List ℕ) (n : ℕ) → n ≡ length bytes → length bytes ≤ length run → bytes ++ drop n run ≡ sets run 0 bytes
put_first bytes run n e h = rw (e, sets-eq bytes run 0 (omega arith), zero-add)
