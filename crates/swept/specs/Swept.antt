-- What one job comes to, from its bytes (01, "Rigs to try", the program sweep).
use Rattle.std.specs.Prelude.{ℕ, List, length, replicate, pos}
use Rattle.number.specs.Read.{Read, got, refused}
use Rattle.job.specs.declared.Job.{Job}
use Rattle.job_reader.specs.Record.{read_job}
use Rattle.path.specs.Stations.{stations}
use Rattle.path.specs.Laying.{PathRuns, path_runs}
use Rattle.reaches.specs.Cells.{Reaches, reach_runs}
use Rattle.stations.specs.Placing.{unless_refused}
use Rattle.run.specs.Ran.{Ran}
use Rattle.run.specs.Ran as R
use Rattle.run.specs.Run.{ran_over, run_refusal, ran_answer, job_path, job_course}
use Rattle.swept.specs.Answers.{Swept}
use Rattle.swept.specs.Answers as S

-- runs of zeros, with an entry for every station that a path can have
unfoldable pub empty_path : PathRuns
empty_path = path_runs (replicate 2001 (pos 0)) (replicate 2001 (pos 0)) (replicate 2001 (pos 0)) (replicate 2001 (pos 0))

unfoldable pub empty_reaches : Reaches
empty_reaches = reach_runs (replicate 2001 (pos 0)) (replicate 2001 (pos 0)) (replicate 2001 0)

-- the same answer; 21 names no byte, and byte 0 stands beside it
abbrev pub swept_run : Ran → Swept
swept_run (R.finished f) = S.finished f
swept_run (R.stopped n u k) = S.stopped n u k
swept_run (R.refused n) = S.refused n 0

-- the walk of an accepted job over its own path
unfoldable pub swept_job : Job → Swept
swept_job j = swept_run (ran_over (length (stations j)) (job_path j empty_path) (job_course j empty_path empty_reaches))

-- "A refused job prints only" its number and byte
abbrev pub swept_read : Read Job → Swept
swept_read (got j e) = swept_job j
swept_read (refused n p) = S.refused n p

unfoldable pub swept_of : List ℕ → Swept
swept_of s = swept_read (read_job s)

-- on a caller's runs: what the reader refuses writes nothing; an accepted job is run, and its answer and the seven runs are that run's
abbrev pub swept_into : Read Job → PathRuns → Reaches → Swept
swept_into (got j e) p r = swept_run (ran_answer (run_refusal j p r) (ran_over (length (stations j)) (job_path j p) (job_course j p r)))
swept_into (refused n b) p r = S.refused n b

abbrev pub path_into : Read Job → PathRuns → Reaches → PathRuns
path_into (got j e) p r = unless_refused (run_refusal j p r) (job_path j p) p
path_into (refused n b) p r = p

abbrev pub reaches_into : Read Job → PathRuns → Reaches → Reaches
reaches_into (got j e) p r = unless_refused (run_refusal j p r) (job_course j p r).runs r
reaches_into (refused n b) p r = r
