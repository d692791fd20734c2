-- What stands beside an answer (02, N1): which numbers a list is refused by, and where a record is refused.
use Rattle.std.specs.Prelude.{ℕ, ◌≡◌, ◌⊎◌, List}
use Rattle.job_reader.specs.Record.{read_job}
use Rattle.path.specs.Laying.{PathRuns}
use Rattle.reaches.specs.Cells.{Reaches}
use Rattle.ranking.specs.Ranking.{Listed}
use Rattle.ranking.specs.Ranking as L
use Rattle.bogie.specs.declared.Rail.{Rail}
use Rattle.swept.specs.Ranges.{RefusedSo}
use Rattle.offered.specs.Answers.{Offered}
use Rattle.offered.specs.Answers as O
use Rattle.offered.specs.Offered.{offered_into, path_into, reaches_into}

-- a job that was read has no fault 3 to 9 left
abbrev pub ListedSo : Listed → Type 0
ListedSo (L.one a) = Unit {0}
ListedSo (L.two a b) = Unit {0}
ListedSo (L.three a b c) = Unit {0}
ListedSo (L.refused n) = (n ≡ 21) ⊎ (n ≡ 29) ⊎ (n ≡ 30)

abbrev pub OfferedSo : List ℕ → Offered → Type 0
OfferedSo s (O.listed l) = ListedSo l
OfferedSo s (O.refused n p) = RefusedSo s n p

-- what `list_into` ensures of the bytes s and the rail b: the answer, and the seven runs
pub record ListIntoEnsures (s : List ℕ) (b : Rail) (p : PathRuns) (r : Reaches) (a : Offered) (p' : PathRuns) (r' : Reaches) : Type 0 where
  pub answer : a ≡ offered_into (read_job s) b p r
  pub path : p' ≡ path_into (read_job s) b p r
  pub reaches : r' ≡ reaches_into (read_job s) b p r
  pub ranges : OfferedSo s a
