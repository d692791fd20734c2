-- The list of settings for a job (02, N1): "walk the job from a new placement at each", and what stands in the lent runs afterwards.
use Rattle.std.specs.Prelude.{ℕ, zero, suc, ◌≡◌, List, length}
use Rattle.job.specs.declared.Job.{Job}
use Rattle.job.specs.Faults.{or_fault, first_of}
use Rattle.path.specs.Stations.{stations}
use Rattle.path.specs.Laying.{PathRuns}
use Rattle.reaches.specs.Cells.{Reaches}
use Rattle.stations.specs.Placing.{unless_refused}
use Rattle.run.specs.Ran.{Ran}
use Rattle.run.specs.Run.{ran_over, run_refusal, job_path, job_course}
use Rattle.ranking.specs.declared.Setting.{Setting}
use Rattle.ranking.specs.Ranking.{Listed, ranked, listed_of}
use Rattle.ranking.specs.Ranking as L
use Rattle.bogie.specs.declared.Rail.{Rail}
use Rattle.bogie.specs.Settings.{setting_at, last_setting, rail_allowed, job_set}
use Rattle.bogie.specs.Fitting.{fitting}

-- "After the job's own faults and 21, it refuses with 29, before any walk"; 0 for none
unfoldable pub list_refusal : Job → Rail → PathRuns → Reaches → ℕ
list_refusal j b p r = first_of (run_refusal j p r) (or_fault (rail_allowed b) 29 0)

-- what the run of a job comes to once nothing is refused before its walk
abbrev pub ran_job : Job → PathRuns → Reaches → Ran
ran_job j p r = ran_over (length (stations j)) (job_path j p) (job_course j p r)

-- what the run at a last wheelbase comes to, from a new placement
abbrev pub ran_at : Job → PathRuns → Reaches → ℕ → Ran
ran_at j p r w = ran_job (job_set j w) p r

-- every setting that may be listed, best first
abbrev pub ranked_settings : Job → Rail → PathRuns → Reaches → List Setting
ranked_settings j b p r = ranked (fitting (ran_at j p r) (setting_at b) b.number)

abbrev pub list_answer : ℕ → Listed → Listed
list_answer zero l = l
list_answer (suc n) l = L.refused (suc n)

-- Refused by 3 to 9, 21 or 29, no run is written. "Afterwards, 30 included despite demand 1, the lent runs hold the last setting's walk as far as it went":
-- the path stands in its four runs, and the other three are as the last setting's run leaves them
pub record ListEnsures (j : Job) (b : Rail) (p : PathRuns) (r : Reaches) (answer : Listed) (p' : PathRuns) (r' : Reaches) : Type 0 where
  pub answered : answer ≡ list_answer (list_refusal j b p r) (listed_of (ranked_settings j b p r))
  pub path : p' ≡ unless_refused (list_refusal j b p r) (job_path j p) p
  pub reaches : r' ≡ unless_refused (list_refusal j b p r) (job_course (job_set j (last_setting b)) p r).runs r
