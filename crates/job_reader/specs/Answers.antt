-- What the reader of a job answers, case by case, and what it ensures.
use Rattle.std.specs.Prelude.{ℕ, ◌≡◌, List, length, Result, Ok, Err}
use Rattle.refusal.specs.Numbers.{number_of}
use Rattle.refusal.specs.declared.Refusal.{Refusal}
use Rattle.number.specs.Read.{Bytes, Read, got, refused}
use Rattle.job.specs.declared.Job.{Job}
use Rattle.job_reader.specs.Record.{read_job}

-- a job takes all bytes, of which there are so many; or the refusal's number, and the byte where the field starts
abbrev pub as_job : ℕ → Result Job Refusal → Read Job
as_job size (Ok j) = got j size
as_job size (Err r) = refused (number_of r.fault) r.place

-- what `read_job` ensures on the bytes s
pub record ReadEnsures (s : List ℕ) (r : Result Job Refusal) : Type 0 where
  pub answer : as_job (length s) r ≡ read_job s
  pub bytes : Bytes s
