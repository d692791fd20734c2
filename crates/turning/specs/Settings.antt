-- What a call of `turning_settings` comes to (02, N1): the number, the list in the answer run, and the caller's seven runs.
use Rattle.std.specs.Prelude.{ℕ, ◌≤◌, ◌≡◌, List, length, leb, ℤ}
use Rattle.number.specs.Read.{pick}
use Rattle.job_reader.specs.Record.{read_job}
use Rattle.path.specs.Laying.{PathRuns}
use Rattle.reaches.specs.Cells.{Reaches}
use Rattle.ranking.specs.Ranking.{Listed}
use Rattle.ranking.specs.Ranking as L
use Rattle.bogie.specs.declared.Rail.{Rail}
use Rattle.answer_run.specs.Answers.{Answered}
use Rattle.entries.specs.Lists.{settings_told}
use Rattle.offered.specs.Answers.{Offered}
use Rattle.offered.specs.Answers as O
use Rattle.offered.specs.Offered.{offered_into, path_into, reaches_into}
use Rattle.offered.specs.Ranges.{ListedSo}
use Rattle.turning.specs.Calls.{number_in, byte_in, ByteTold}

-- by 21, 29 or 30, without a byte
pub record ListTold (a n : ℕ) : Type 0 where
  pub number : number_in a ≡ n
  pub byte : byte_in a ≡ 0
  pub named : ListedSo (L.refused n)

-- the number answered tells which answer it was, and what stands beside a refusal
abbrev pub ListApart : ℕ → Listed → Type 0
ListApart a (L.one s) = a ≡ 0
ListApart a (L.two s t) = a ≡ 0
ListApart a (L.three s t u) = a ≡ 0
ListApart a (L.refused n) = ListTold a n

abbrev pub OfferApart : ℕ → Offered → Type 0
OfferApart a (O.listed l) = ListApart a l
OfferApart a (O.refused n p) = ByteTold a n p

-- what `turning_settings` ensures of a job's bytes s and a rail b; the seven runs stay where the answer run is too short
pub record SettingsCalled (s : List ℕ) (b : Rail) (p : PathRuns) (r : Reaches) (before : List ℤ) (a : ℕ) (p' : PathRuns) (r' : Reaches) (after : List ℤ) : Type 0 where
  pub told : Answered 7 (settings_told (offered_into (read_job s) b p r)) before a after
  pub apart : 7 ≤ length before → OfferApart a (offered_into (read_job s) b p r)
  pub path : p' ≡ pick (leb 7 (length before)) (path_into (read_job s) b p r) p
  pub reaches : r' ≡ pick (leb 7 (length before)) (reaches_into (read_job s) b p r) r
