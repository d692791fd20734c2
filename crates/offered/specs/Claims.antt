-- The claims about the list from a job's bytes, over what `list_job` and `list_into` ensure.
use Rattle.std.specs.Prelude.{ℕ, ◌≡◌, List, take}
use Rattle.number.specs.Read.{refused}
use Rattle.job_reader.specs.Record.{read_job}
use Rattle.path.specs.Laying.{PathRuns}
use Rattle.reaches.specs.Cells.{Reaches}
use Rattle.bogie.specs.declared.Rail.{Rail}
use Rattle.swept.specs.Claims.{bytes_read}
use Rattle.offered.specs.Answers.{Offered}
use Rattle.offered.specs.Answers as O
use Rattle.offered.specs.Offered.{offered_of}
use Rattle.offered.specs.Ranges.{ListIntoEnsures}

-- the program reads its job as `sweep` does: of a longer input the bytes that it reads decide the answer
abbrev pub FirstBytes : Type 0
FirstBytes = (s : List ℕ) (b : Rail) → offered_of s b ≡ offered_of (take bytes_read s) b

-- what the reader refuses is told with its byte whatever the settings, before 21 and 29, and a caller's runs stay
pub record RecordFirst : Type 0 where
  pub own : (s : List ℕ) (n k : ℕ) → read_job s ≡ refused n k → (b : Rail) → offered_of s b ≡ O.refused n k
  pub lent : (s : List ℕ) (n k : ℕ) → read_job s ≡ refused n k → (b : Rail) (p : PathRuns) (r : Reaches) (a : Offered) (p' : PathRuns) (r' : Reaches)
      → ListIntoEnsures s b p r a p' r' → (a ≡ O.refused n k) × (p' ≡ p) × (r' ≡ r)
