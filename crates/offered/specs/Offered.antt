-- What the list of settings comes to from a job's bytes (02, N1).
use Rattle.std.specs.Prelude.{ℕ, List}
use Rattle.number.specs.Read.{Read, got, refused, pick}
use Rattle.job.specs.declared.Job.{Job}
use Rattle.job_reader.specs.Record.{read_job}
use Rattle.path.specs.Laying.{PathRuns}
use Rattle.reaches.specs.Cells.{Reaches}
use Rattle.stations.specs.Placing.{unless_refused}
use Rattle.run.specs.Run.{job_path, job_course}
use Rattle.ranking.specs.Ranking.{Listed, listed_of}
use Rattle.ranking.specs.Ranking as L
use Rattle.bogie.specs.declared.Rail.{Rail}
use Rattle.bogie.specs.Settings.{last_setting, rail_allowed, job_set}
use Rattle.bogie.specs.List.{list_refusal, ranked_settings, list_answer}
use Rattle.swept.specs.Swept.{empty_path, empty_reaches}
use Rattle.offered.specs.Answers.{Offered}
use Rattle.offered.specs.Answers as O

-- the list of an accepted job, on runs that have room for every path: the best three settings, 30 without one; 29 for a rail outside the limits
unfoldable pub list_of : Job → Rail → Listed
list_of j b = pick (rail_allowed b) (listed_of (ranked_settings j b empty_path empty_reaches)) (L.refused 29)

-- the record's own refusal comes before 29
abbrev pub offered_read : Read Job → Rail → Offered
offered_read (got j e) b = O.listed (list_of j b)
offered_read (refused n p) b = O.refused n p

unfoldable pub offered_of : List ℕ → Rail → Offered
offered_of s b = offered_read (read_job s) b

-- on a caller's runs: what the reader refuses writes nothing; an accepted job is listed, and its answer and the seven runs are that list's
abbrev pub offered_into : Read Job → Rail → PathRuns → Reaches → Offered
offered_into (got j e) b p r = O.listed (list_answer (list_refusal j b p r) (listed_of (ranked_settings j b p r)))
offered_into (refused n k) b p r = O.refused n k

abbrev pub path_into : Read Job → Rail → PathRuns → Reaches → PathRuns
path_into (got j e) b p r = unless_refused (list_refusal j b p r) (job_path j p) p
path_into (refused n k) b p r = p

abbrev pub reaches_into : Read Job → Rail → PathRuns → Reaches → Reaches
reaches_into (got j e) b p r = unless_refused (list_refusal j b p r) (job_course (job_set j (last_setting b)) p r).runs r
reaches_into (refused n k) b p r = r
