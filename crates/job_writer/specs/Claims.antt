-- The claims about reading and writing jobs, over what the two entries ensure.
use Rattle.std.specs.Prelude.{ℕ, ◌<◌, ◌≤◌, ◌≡◌, List, length, take, Result, Ok}
use Rattle.std.proofs.lemmas.List.Edits.{sets}
use Rattle.refusal.specs.declared.Refusal.{Refusal}
use Rattle.number.specs.Read.{Bytes}
use Rattle.job.specs.Empty.{cleared}
use Rattle.job.specs.Faults.{judge}
use Rattle.job.specs.declared.Job.{Job}
use Rattle.job_reader.specs.Worked.{worked_record}
use Rattle.job_reader.specs.Answers.{ReadEnsures}
use Rattle.job_writer.specs.Length.{longest_record}
use Rattle.job_writer.specs.Write.{write_job}
use Rattle.job_writer.specs.Answers.{WriteEnsures}
use Rattle.refusal.specs.declared.Fault.{Fault}

-- each job has one encoding, and every job without a fault has it: "The writer tests values in the same order (3 to 9, no place), then 28; it answers
-- the number of bytes written" (01, "Why a job is turned down")
pub record OneEncoding : Type 0 where
  -- a job without a fault is written into any run that has room for its record
  pub written : (j : Job) (before : List ℕ) (w : Result ℕ Fault) (after : List ℕ) → WriteEnsures j before w after
      → judge j ≡ 0 → length (write_job j) ≤ length before
      → (w ≡ Ok (length (write_job j))) × (after ≡ sets before 0 (write_job j))
  -- and its record, which is bytes, is accepted as that job with its unused entries emptied, a short job's bodies too; a job's arrays have their lengths by its type
  pub bytes : (j : Job) → length j.vehicle.units ≡ 4 → length j.elements ≡ 64 → judge j ≡ 0 → Bytes (write_job j)
  pub accepted : (j : Job) → length j.vehicle.units ≡ 4 → length j.elements ≡ 64 → judge j ≡ 0
      → (r : Result Job Refusal) → ReadEnsures (write_job j) r → r ≡ Ok (cleared j)
  -- there are such jobs: that of 01, "Rigs to try"
  pub worked : (j : Job) × ReadEnsures worked_record (Ok j)
  -- bytes that read as a job are what the writer makes of it, in any run that has the room
  pub write_after_read : (s : List ℕ) (j : Job) → ReadEnsures s (Ok j)
      → (before : List ℕ) (w : Result ℕ Fault) (after : List ℕ) → WriteEnsures j before w after → length s ≤ length before
      → (w ≡ Ok (length s)) × (after ≡ sets before 0 s)
  -- what the writer made of a job reads as that job with its unused entries emptied
  pub read_after_write : (j : Job) (before : List ℕ) (n : ℕ) (after : List ℕ) → WriteEnsures j before (Ok n) after
      → (r : Result Job Refusal) → ReadEnsures (take n after) r
      → r ≡ Ok (cleared j)
  -- no two byte lists read as one job
  pub one : (s t : List ℕ) (j : Job) → ReadEnsures s (Ok j) → ReadEnsures t (Ok j) → s ≡ t

-- "An accepted job of this record is under 520 bytes", read or by value; the first 1,024 bytes of any input decide the answer
pub record RecordLength : Type 0 where
  pub longest : (s : List ℕ) (j : Job) → ReadEnsures s (Ok j) → length s ≤ longest_record
  pub by_value : (j : Job) → judge j ≡ 0 → length (write_job j) ≤ longest_record
  pub under : longest_record < 520
  -- so a run of 520 bytes has room for any job
  pub room : (j : Job) (before : List ℕ) (w : Result ℕ Fault) (after : List ℕ) → WriteEnsures j before w after → judge j ≡ 0 → 520 ≤ length before → w ≡ Ok (length (write_job j))
  pub enough : (s : List ℕ) (r q : Result Job Refusal) → ReadEnsures s r → ReadEnsures (take 1024 s) q → r ≡ q
