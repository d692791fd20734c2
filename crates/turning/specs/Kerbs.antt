-- What a call of `turning_kerb_ticks` or `turning_kerb_touch` comes to (02, N4): the number, the answer run, and the caller's two runs of ticks.
use Rattle.std.specs.Prelude.{ℕ, ◌≤◌, ◌≡◌, List, ◌⊎◌, length, leb, ℤ}
use Rattle.number.specs.Read.{pick}
use Rattle.job_reader.specs.Record.{read_job}
use Rattle.answer_run.specs.Answers.{Answered}
use Rattle.kerb_line.specs.Kerb.{KerbRuns, kerb_runs}
use Rattle.kerb_reader.specs.Answers.{KerbRead}
use Rattle.kerb_reader.specs.Answers as R
use Rattle.kerb_reader.specs.Geometry.{read_geometry}
use Rattle.kerb_reader.specs.Ticks.{east_ticks, north_ticks, kerb_answer, ticks_in}
use Rattle.kerbed.specs.Answers.{Kerbed}
use Rattle.kerbed.specs.Answers as K
use Rattle.kerbed.specs.Kerbed.{kerbed_ticks}
use Rattle.kerbed.specs.Ranges.{RefusedSo}
use Rattle.kerb_told.specs.Entries.{ticks_told, touch_told}
use Rattle.turning.specs.Calls.{number_in, byte_in, UnitTold}

-- by 12 or 13 with the byte, which is one of the longest geometry or just after it
pub record GeometryTold (a n p : ℕ) : Type 0 where
  pub number : number_in a ≡ n
  pub byte : byte_in a ≡ p
  pub named : (n ≡ 12) ⊎ (n ≡ 13)
  pub near : p ≤ 8009

-- the number answered tells which answer it was, and what stands beside a refusal
abbrev pub ReadApart : ℕ → KerbRead → Type 0
ReadApart a (R.vertices n) = a ≡ 0
ReadApart a (R.refused_at n p) = GeometryTold a n p
ReadApart a (R.refused n) = a ≡ 21

-- the runs after reading the geometry g
abbrev pub ticks_left : List ℕ → KerbRuns → KerbRuns
ticks_left g k = kerb_runs (ticks_in (read_geometry g) east_ticks k.xs k.ys k.xs) (ticks_in (read_geometry g) north_ticks k.xs k.ys k.ys)

-- what `turning_kerb_ticks` ensures of a geometry's bytes g; the two runs stay where the answer run is too short
pub record TicksCalled (g : List ℕ) (k : KerbRuns) (before : List ℤ) (a : ℕ) (k' : KerbRuns) (after : List ℤ) : Type 0 where
  pub told : Answered 1 (ticks_told (kerb_answer (read_geometry g) k.xs k.ys)) before a after
  pub apart : 1 ≤ length before → ReadApart a (kerb_answer (read_geometry g) k.xs k.ys)
  pub ticks : k' ≡ pick (leb 1 (length before)) (ticks_left g k) k

-- by a number and a byte, as they stand beside the answer
pub record RefusalTold (a n p : ℕ) : Type 0 where
  pub number : number_in a ≡ n
  pub byte : byte_in a ≡ p
  pub named : RefusedSo n p

abbrev pub TouchApart : ℕ → Kerbed → Type 0
TouchApart a K.nothing = a ≡ 0
TouchApart a (K.touch k p) = a ≡ 0
TouchApart a (K.stopped n u k) = UnitTold a n u k
TouchApart a (K.refused n p) = RefusalTold a n p

-- what `turning_kerb_touch` ensures of a job's bytes s and a kerb of n vertices
pub record TouchCalled (s : List ℕ) (n : ℕ) (k : KerbRuns) (before : List ℤ) (a : ℕ) (after : List ℤ) : Type 0 where
  pub told : Answered 3 (touch_told (kerbed_ticks (read_job s) n k)) before a after
  pub apart : 3 ≤ length before → TouchApart a (kerbed_ticks (read_job s) n k)
