-- What stands beside an answer (01, "Why a job is turned down", "Drawing the units"): which numbers, and how large units, steps, stations and bytes can be.
use Rattle.std.specs.Prelude.{ℕ, ◌≤◌, ◌≡◌, ◌⊎◌, List, length, Option, None, Some}
use Rattle.job_reader.specs.Record.{read_job}
use Rattle.path.specs.Laying.{PathRuns}
use Rattle.reaches.specs.Cells.{Reaches}
use Rattle.reaches.specs.declared.Place.{Place}
use Rattle.run.specs.declared.Finish.{Finish}
use Rattle.swept.specs.Answers.{Swept}
use Rattle.swept.specs.Answers as S
use Rattle.swept.specs.Swept.{swept_of, swept_into, path_into, reaches_into}

-- the widest place is at a station of the path
abbrev pub OnPath : Option Place → Type 0
OnPath None = Unit {0}
OnPath (Some p) = p.station ≤ 2000

pub record FinishedSo (f : Finish) : Type 0 where
  pub steps : f.steps ≤ 2000
  pub widest : OnPath f.widest

-- by 22 or 23, and both counted from 1
pub record StoppedSo (n u k : ℕ) : Type 0 where
  pub number : (n ≡ 22) ⊎ (n ≡ 23)
  pub unit : (1 ≤ u) × (u ≤ 4)
  pub step : (1 ≤ k) × (k ≤ 2000)

-- by 1 to 10, at a byte of the input or at its end; however long the input, at one of the first 1,024 or just after them
pub record RefusedSo (s : List ℕ) (n p : ℕ) : Type 0 where
  pub number : (1 ≤ n) × (n ≤ 10)
  pub place : p ≤ length s
  pub near : p ≤ 1024

abbrev pub AnsweredSo : List ℕ → Swept → Type 0
AnsweredSo s (S.finished f) = FinishedSo f
AnsweredSo s (S.stopped n u k) = StoppedSo n u k
AnsweredSo s (S.refused n p) = RefusedSo s n p

-- what `sweep_job` ensures of the bytes s
pub record SweptEnsures (s : List ℕ) (r : Swept) : Type 0 where
  pub answer : r ≡ swept_of s
  pub ranges : AnsweredSo s r

-- on a caller's runs 21 can stand there too, without a byte
abbrev pub IntoSo : List ℕ → Swept → Type 0
IntoSo s (S.finished f) = FinishedSo f
IntoSo s (S.stopped n u k) = StoppedSo n u k
IntoSo s (S.refused n p) = RefusedSo s n p ⊎ ((n ≡ 21) × (p ≡ 0))

-- what `sweep_into` ensures of the bytes s: the answer, and the seven runs
pub record IntoEnsures (s : List ℕ) (p : PathRuns) (r : Reaches) (a : Swept) (p' : PathRuns) (r' : Reaches) : Type 0 where
  pub answer : a ≡ swept_into (read_job s) p r
  pub path : p' ≡ path_into (read_job s) p r
  pub reaches : r' ≡ reaches_into (read_job s) p r
  pub ranges : IntoSo s a
