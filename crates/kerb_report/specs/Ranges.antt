-- What the report ensures: its answer, and which numbers, units, steps and points can stand in it.
use Rattle.std.specs.Prelude.{ℕ, ◌≤◌, ◌<◌, ◌≡◌, ◌⊎◌}
use Rattle.marks.specs.Count.{point_capacity}
use Rattle.path.specs.Laying.{PathRuns}
use Rattle.walk.specs.Drawn.{Drawn}
use Rattle.kerb_line.specs.Kerb.{KerbRuns}
use Rattle.kerb_report.specs.Answers.{KerbReport}
use Rattle.kerb_report.specs.Answers as R
use Rattle.kerb_report.specs.Report.{report_of}

-- a step of the path, and a point that the arrays have room for
pub record TouchedSo (k p : ℕ) : Type 0 where
  pub step : (1 ≤ k) × (k ≤ 2000)
  pub point : p < point_capacity

-- by 22 or 23, at a unit and a step counted from 1
pub record StoppedSo (m u k : ℕ) : Type 0 where
  pub number : (m ≡ 22) ⊎ (m ≡ 23)
  pub unit : (1 ≤ u) × (u ≤ 4)
  pub step : (1 ≤ k) × (k ≤ 2000)

-- before any step, by 21, 26 or 27
abbrev pub ReportedSo : KerbReport → Type 0
ReportedSo R.nothing = Unit {0}
ReportedSo (R.touch k p) = TouchedSo k p
ReportedSo (R.stopped m u k) = StoppedSo m u k
ReportedSo (R.refused m) = (m ≡ 21) ⊎ ((m ≡ 26) ⊎ (m ≡ 27))

pub record ReportEnsures (s : Drawn) (asked : ℕ) (path : PathRuns) (n : ℕ) (kerb : KerbRuns) (r : KerbReport) : Type 0 where
  pub answer : r ≡ report_of s asked path n kerb
  pub ranges : ReportedSo r
