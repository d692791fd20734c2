-- What a call of `turning_sweep` or `turning_run` comes to: the answer run, the number, taken apart as the header's macros do it, and the caller's seven runs.
use Rattle.std.specs.Prelude.{ℕ, ◌/◌, ◌%◌, ◌≤◌, ◌≡◌, List, ◌⊎◌, length, leb, ℤ}
use Rattle.number.specs.Read.{pick}
use Rattle.job_reader.specs.Record.{read_job}
use Rattle.path.specs.Laying.{PathRuns}
use Rattle.reaches.specs.Cells.{Reaches}
use Rattle.swept.specs.Answers.{Swept}
use Rattle.swept.specs.Answers as S
use Rattle.swept.specs.Swept.{swept_of, swept_into, path_into, reaches_into}
use Rattle.swept.specs.Ranges.{StoppedSo}
use Rattle.answer_run.specs.Answers.{Answered}
use Rattle.entries.specs.Answers.{sweep_told}

-- TURNING_NUMBER, TURNING_BYTE, TURNING_UNIT and TURNING_STEP
abbrev pub number_in : ℕ → ℕ
number_in a = a % 256

abbrev pub byte_in : ℕ → ℕ
byte_in a = a / 256

abbrev pub unit_in : ℕ → ℕ
unit_in a = (a / 256) % 256

abbrev pub step_in : ℕ → ℕ
step_in a = a / 65536

-- by 1 to 10 with the byte, or by 21 without one
pub record ByteTold (a n p : ℕ) : Type 0 where
  pub number : number_in a ≡ n
  pub byte : byte_in a ≡ p
  pub named : ((1 ≤ n) × (n ≤ 10)) ⊎ ((n ≡ 21) × (p ≡ 0))

-- by 22 or 23, with the unit and the step
pub record UnitTold (a n u k : ℕ) : Type 0 where
  pub number : number_in a ≡ n
  pub unit : unit_in a ≡ u
  pub step : step_in a ≡ k
  pub named : StoppedSo n u k

-- the number answered tells which answer it was, and what stands beside a refusal
abbrev pub TakenApart : ℕ → Swept → Type 0
TakenApart a (S.finished f) = a ≡ 0
TakenApart a (S.stopped n u k) = UnitTold a n u k
TakenApart a (S.refused n p) = ByteTold a n p

-- what `turning_sweep` ensures of a job's bytes s
pub record SweepCalled (s : List ℕ) (before : List ℤ) (a : ℕ) (after : List ℤ) : Type 0 where
  pub told : Answered 8 (sweep_told (swept_of s)) before a after
  pub apart : 8 ≤ length before → TakenApart a (swept_of s)

-- what `turning_run` ensures: the same on the caller's runs, which stay where the answer run is too short
pub record RunCalled (s : List ℕ) (p : PathRuns) (r : Reaches) (before : List ℤ) (a : ℕ) (p' : PathRuns) (r' : Reaches) (after : List ℤ) : Type 0 where
  pub told : Answered 8 (sweep_told (swept_into (read_job s) p r)) before a after
  pub apart : 8 ≤ length before → TakenApart a (swept_into (read_job s) p r)
  pub path : p' ≡ pick (leb 8 (length before)) (path_into (read_job s) p r) p
  pub reaches : r' ≡ pick (leb 8 (length before)) (reaches_into (read_job s) p r) r
