-- What stands beside an answer (02, N4): which numbers, and how large steps, points, units and bytes can be.
use Rattle.std.specs.Prelude.{ℕ, ◌≤◌, ◌≡◌, ◌⊎◌, List}
use Rattle.job_reader.specs.Record.{read_job}
use Rattle.swept.specs.Ranges.{StoppedSo}
use Rattle.kerb_line.specs.Kerb.{KerbRuns}
use Rattle.kerbed.specs.Answers.{Kerbed}
use Rattle.kerbed.specs.Answers as K
use Rattle.kerbed.specs.Kerbed.{kerbed_ticks, kerbed_of}

-- at a step of the path, counted from 1, by a point of the rig
pub record TouchSo (k p : ℕ) : Type 0 where
  pub step : (1 ≤ k) × (k ≤ 2000)
  pub point : p ≤ 19

-- by 1 to 10 at a byte of the job, or by 21 or 26, which are the kerb's, without one
abbrev pub RefusedSo : ℕ → ℕ → Type 0
RefusedSo n p = ((1 ≤ n) × (n ≤ 10) × (p ≤ 1024)) ⊎ (((n ≡ 21) ⊎ (n ≡ 26)) × (p ≡ 0))

abbrev pub KerbedSo : Kerbed → Type 0
KerbedSo K.nothing = Unit {0}
KerbedSo (K.touch k p) = TouchSo k p
KerbedSo (K.stopped n u k) = StoppedSo n u k
KerbedSo (K.refused n p) = RefusedSo n p

-- what `check_ticks` ensures of a job's bytes s and a kerb of n vertices
pub record TicksEnsures (s : List ℕ) (n : ℕ) (kerb : KerbRuns) (r : Kerbed) : Type 0 where
  pub answer : r ≡ kerbed_ticks (read_job s) n kerb
  pub ranges : KerbedSo r

-- of a kerb's bytes: by 1 to 10 at a byte of the job, by 12 or 13 at a byte of the geometry; the kerb itself is not refused
abbrev pub BytesRefusedSo : ℕ → ℕ → Type 0
BytesRefusedSo n p = ((1 ≤ n) × (n ≤ 10) × (p ≤ 1024)) ⊎ (((n ≡ 12) ⊎ (n ≡ 13)) × (p ≤ 8009))

abbrev pub BytesSo : Kerbed → Type 0
BytesSo K.nothing = Unit {0}
BytesSo (K.touch k p) = TouchSo k p
BytesSo (K.stopped n u k) = StoppedSo n u k
BytesSo (K.refused n p) = BytesRefusedSo n p

-- what `check_geometry` ensures of a job's bytes s and a geometry's bytes g
pub record KerbedEnsures (s g : List ℕ) (r : Kerbed) : Type 0 where
  pub answer : r ≡ kerbed_of s g
  pub ranges : BytesSo r
