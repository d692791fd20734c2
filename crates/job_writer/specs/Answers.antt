-- What the writer of a job ensures: "The writer tests values in the same order (3 to 9, no place), then 28; it answers the number of bytes written
-- and leaves those after them" (01, "Why a job is turned down").
use Rattle.std.specs.Prelude.{ℕ, zero, suc, ◌≡◌, List, Result, length, leb}
use Rattle.std.proofs.lemmas.List.Edits.{sets}
use Rattle.job.specs.Faults.{or_fault, first_of, judge}
use Rattle.job.specs.declared.Job.{Job}
use Rattle.job_writer.specs.Write.{write_job}
use Rattle.refusal.specs.declared.Fault.{Fault}
use Rattle.refusal.specs.Numbers.{Answer, answered, refused, as_answer}

-- 3 to 9, then 28, or 0 for none, for a run of so many bytes
abbrev pub write_fault : Job → ℕ → ℕ
write_fault j size = first_of (judge j) (or_fault (leb (length (write_job j)) size) 28 0)

abbrev pub wrote : ℕ → ℕ → Answer ℕ
wrote zero count = answered count
wrote (suc fault) count = refused (suc fault)

-- the run afterwards
abbrev pub run_after : ℕ → List ℕ → List ℕ → List ℕ
run_after zero bytes before = sets before 0 bytes
run_after (suc fault) bytes before = before

-- the arrays of a job have their lengths by its type, which the definitions do not see
pub record WriteEnsures (j : Job) (before : List ℕ) (r : Result ℕ Fault) (after : List ℕ) : Type 0 where
  pub answer : as_answer r ≡ wrote (write_fault j (length before)) (length (write_job j))
  pub written : after ≡ run_after (write_fault j (length before)) (write_job j) before
  pub units : length j.vehicle.units ≡ 4
  pub elements : length j.elements ≡ 64
