-- What the functions that are no entries require of their callers, and what they ensure.
use Rattle.std.specs.Prelude.{ℕ, ◌≡◌, true, List, Result, Ok, Err}
use Rattle.job.specs.declared.Job.{Job}
use Rattle.job.specs.Faults.{judge}
use Rattle.job_reader.specs.Answers.{ReadEnsures}
use Rattle.path.specs.Laying.{PathRuns}
use Rattle.walk.specs.Tests.{path_lent, path_sound, vehicle_sound}
use Rattle.swept.specs.declared.SweepRefusal.{SweepRefusal}
use Rattle.swept.specs.declared.SweepRefusal.TheVariants as R
use Rattle.kerb_line.specs.Kerb.{KerbRuns}
use Rattle.kerb_reader.specs.Geometry.{read_geometry}
use Rattle.kerbed.specs.Answers.{Kerbed}
use Rattle.kerbed.specs.Kerbed.{kerbed_job, kerbed_survey}
use Rattle.kerbed.specs.Ranges.{KerbedSo, BytesSo}

-- a job that was accepted
pub record Faultless (j : Job) : Type 0 where
  pub judged : judge j ≡ 0

-- a job as it was read, or its refusal
abbrev pub AcceptedEnsures : List ℕ → Result Job SweepRefusal → Type 0
AcceptedEnsures s (Ok j) = ReadEnsures s (Ok j)
AcceptedEnsures s (Err (R.Refused f)) = ReadEnsures s (Err f)
AcceptedEnsures s (Err (R.Stopped t)) = ⊥

-- a job's vehicle and a path that pass 21, 26 and 27
pub record Placeable (j : Job) (asked : ℕ) (p : PathRuns) : Type 0 where
  pub lent : path_lent asked p ≡ true
  pub path : path_sound asked p ≡ true
  pub vehicle : vehicle_sound j.vehicle ≡ true

-- what the report of an accepted job comes to
pub record JobEnsures (j : Job) (n : ℕ) (kerb : KerbRuns) (r : Kerbed) : Type 0 where
  pub answer : r ≡ kerbed_job j n kerb
  pub ranges : KerbedSo r

-- and with a kerb's bytes
pub record SurveyEnsures (j : Job) (g : List ℕ) (r : Kerbed) : Type 0 where
  pub answer : r ≡ kerbed_survey j (read_geometry g)
  pub ranges : BytesSo r
