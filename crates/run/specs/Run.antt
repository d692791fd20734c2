-- A whole job (01, "Rigs to try", the program sweep): its path laid, its vehicle placed, every step made, the widest place read off; or the step that was refused.
use Rattle.std.specs.Prelude.{ℕ, zero, suc, ◌+◌, ◌≤◌, ◌<◌, ◌≡◌, true, ◌&&◌, eqb, length}
use Rattle.number.specs.Read.{pick}
use Rattle.job.specs.declared.Vehicle.{Vehicle}
use Rattle.job.specs.declared.Job.{Job}
use Rattle.job.specs.Faults.{judge}
use Rattle.marks.specs.Count.{point_count}
use Rattle.path.specs.Stations.{stations}
use Rattle.path.specs.Laying.{PathRuns, room_for, written}
use Rattle.walk.specs.Drawn.{Drawn, Call, station_at, Outcome, made, refused, refused_at}
use Rattle.walk.specs.Tests.{lent, reaches_lent, path_sound, vehicle_sound}
use Rattle.walk.specs.Rig.{drawn_start}
use Rattle.reaches.specs.Cells.{Reaches, lengths_of, cleared}
use Rattle.reaches.specs.Widest.{widest_among}
use Rattle.stations.specs.Placing.{unless_refused}
use Rattle.run.specs.declared.Finish.{Finish}
use Rattle.run.specs.Ran.{Ran}
use Rattle.run.specs.Ran as R
use Rattle.run.specs.Walking.{Course, walk_to_end}

-- a vehicle placed on a path and stepped to its end
abbrev pub walk_over : ℕ → PathRuns → Vehicle → Reaches → Course
walk_over asked path v r = walk_to_end asked path (drawn_start v (station_at path 0).heading) (cleared asked r)

-- finished: the steps made, the widest place if a station is complete, the last front point
abbrev pub finish_at : Vehicle → ℕ → ℕ → PathRuns → Reaches → Finish
finish_at v station asked path r = record { steps = station; widest = widest_among (point_count v) asked r; front = (station_at path station).position }

-- stopped: the number, and the unit and the step counted from 1; a refusal that names no unit, which no laid path meets, would name unit 0
abbrev pub ran_by : ℕ → PathRuns → Outcome → Drawn → Reaches → Ran
ran_by asked path made s r = R.finished (finish_at s.vehicle s.station asked path r)
ran_by asked path (refused n) s r = R.stopped n 0 (s.station + 1)
ran_by asked path (refused_at n u) s r = R.stopped n u (s.station + 1)

abbrev pub ran_over : ℕ → PathRuns → Course → Ran
ran_over asked path c = ran_by asked path c.answer c.state c.runs

-- the job's faults 3 to 9, then 21 on all seven runs; 0 for none
unfoldable pub run_refusal : Job → PathRuns → Reaches → ℕ
run_refusal j p r =
    pick (eqb (judge j) 0)
    (pick (room_for (length (stations j)) p && reaches_lent (length (stations j)) (lengths_of r)) 0 21)
    (judge j)

abbrev pub ran_answer : ℕ → Ran → Ran
ran_answer zero a = a
ran_answer (suc n) a = R.refused (suc n)

-- the walk of a job over its own path
abbrev pub job_path : Job → PathRuns → PathRuns
job_path j p = written (stations j) p

abbrev pub job_course : Job → PathRuns → Reaches → Course
job_course j p r = walk_over (length (stations j)) (job_path j p) j.vehicle r

-- refused, no run is written; otherwise the path is laid, and left, right and marks are as the steps made left them
pub record RunEnsures (j : Job) (p : PathRuns) (r : Reaches) (answer : Ran) (p' : PathRuns) (r' : Reaches) : Type 0 where
  pub answered : answer ≡ ran_answer (run_refusal j p r) (ran_over (length (stations j)) (job_path j p) (job_course j p r))
  pub path : p' ≡ unless_refused (run_refusal j p r) (job_path j p) p
  pub reaches : r' ≡ unless_refused (run_refusal j p r) (job_course j p r).runs r

-- what a run over a laid path asks, and what it comes to
pub record Runnable (v : Vehicle) (c : Call) : Type 0 where
  pub lent : lent c ≡ true
  pub path : path_sound c.asked c.path ≡ true
  pub vehicle : vehicle_sound v ≡ true

pub record OverEnsures (asked : ℕ) (path : PathRuns) (v : Vehicle) (r : Reaches) (answer : Ran) (r' : Reaches) : Type 0 where
  pub answered : answer ≡ ran_over asked path (walk_over asked path v r)
  pub reaches : r' ≡ (walk_over asked path v r).runs

-- what telling the answer asks: a vehicle with places for its units, runs with room, and a station on the path
pub record Tellable (v : Vehicle) (k : ℕ) (c : Call) : Type 0 where
  pub units : v.count ≤ 4
  pub lent : lent c ≡ true
  pub station : k < c.asked
