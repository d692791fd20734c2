-- "Unused units come back zero and unused elements as straights of length 0; nothing else reads them" (01, "The job record"), "A short job's body fields come
-- back zero and are never read" (02, N3): what the entries ensure of two jobs, vehicles or walk records that agree on everything but unused entries is the same.
use Rattle.std.specs.Prelude.{ℕ, ◌≡◌, List, Result, length}
use Rattle.job.specs.declared.Vehicle.{Vehicle}
use Rattle.job.specs.declared.Job.{Job}
use Rattle.job.specs.Empty.{cleared}
use Rattle.job.specs.Faults.{vehicle_fault, judge}
use Rattle.refusal.specs.Numbers.{Answer}
use Rattle.refusal.specs.declared.Fault.{Fault}
use Rattle.job_writer.specs.Write.{write_job}
use Rattle.job_writer.specs.Answers.{WriteEnsures}
use Rattle.path.specs.Stations.{stations}
use Rattle.path.specs.Laying.{PathRuns, LayEnsures}
use Rattle.walk.specs.declared.Walk.{Walk}
use Rattle.walk.specs.Moving.{Advanced}
use Rattle.walk.specs.Drawn.{view, Call}
use Rattle.reaches.specs.declared.Place.{Place}
use Rattle.reaches.specs.Cells.{Reaches}
use Rattle.reaches.specs.Widest.{widest_answer}
use Rattle.stations.specs.Placing.{Placing, PlaceEnsures}
use Rattle.stations.specs.Stepping.{StepEnsures}
use Rattle.run.specs.Ran.{Ran}
use Rattle.run.specs.Run.{RunEnsures}
use Rattle.ranking.specs.Ranking.{Listed}
use Rattle.bogie.specs.declared.Rail.{Rail}
use Rattle.bogie.specs.List.{ListEnsures}
use Rattle.unused.specs.Same.{SameVehicle, SameJob, SameRig}
use Rattle.unused.specs.Witnesses.{SomeJobs, SomeSteps}

-- two calls: the same answer, records that agree but for unused entries, and the same runs
pub record SameCall {A : Type 0} (a b : A) (w x : Walk) (after other : Reaches) : Type 0 where
  pub answer : a ≡ b
  pub walk : SameRig (view w) (view x)
  pub runs : after ≡ other

-- two runs of a whole job, or two lists of its settings: the answer and all seven runs
pub record SameRun {A : Type 0} (a b : A) (p' q' : PathRuns) (r' s' : Reaches) : Type 0 where
  pub answer : a ≡ b
  pub path : p' ≡ q'
  pub reaches : r' ≡ s'

pub record Unused : Type 0 where
  -- a job without a fault agrees so with what its record reads as; a job's arrays have their lengths by its type
  pub emptied : (j : Job) → length j.vehicle.units ≡ 4 → length j.elements ≡ 64 → judge j ≡ 0 → SameJob j (cleared j)
  pub vehicle_faults : (v u : Vehicle) → SameVehicle v u → vehicle_fault v ≡ vehicle_fault u
  pub faults : (j k : Job) → SameJob j k → judge j ≡ judge k
  pub bytes : (j k : Job) → SameJob j k → write_job j ≡ write_job k
  pub stations : (j k : Job) → SameJob j k → stations j ≡ stations k
  -- written into one run
  pub written : (j k : Job) → SameJob j k → (before : List ℕ) (a b : Result ℕ Fault) (after other : List ℕ)
      → WriteEnsures j before a after → WriteEnsures k before b other → (a ≡ b) × (after ≡ other)
  -- laid into the same four runs
  pub laid : (j k : Job) → SameJob j k → (before : PathRuns) (a b : Result ℕ Fault) (after other : PathRuns)
      → LayEnsures j before a after → LayEnsures k before b other → (a ≡ b) × (after ≡ other)
  -- placed over the same path and runs; refused, each hands back the record it was handed
  pub placed : (v u : Vehicle) → SameVehicle v u → (w x : Walk) → SameRig (view w) (view x)
      → (c : Call) (before : Reaches) (r q : Placing) (after other : Reaches)
      → PlaceEnsures v w c before r after → PlaceEnsures u x c before q other → SameCall r.answer q.answer r.walk q.walk after other
  -- stepped over the same path and runs, so any list of calls goes on alike
  pub stepped : (w x : Walk) → SameRig (view w) (view x)
      → (c : Call) (before : Reaches) (r q : Advanced) (after other : Reaches)
      → StepEnsures w c before r after → StepEnsures x c before q other → SameCall r.answer q.answer r.walk q.walk after other
  -- asked for the widest place among the same stations, in the same three runs
  pub widest : (w x : Walk) → SameRig (view w) (view x) → (asked : ℕ) (runs : Reaches) (a b : Answer Place)
      → a ≡ widest_answer (view w) asked runs → b ≡ widest_answer (view x) asked runs → a ≡ b
  -- run on the same seven runs
  pub ran : (j k : Job) → SameJob j k → (p : PathRuns) (r : Reaches) (a b : Ran) (p' q' : PathRuns) (r' s' : Reaches)
      → RunEnsures j p r a p' r' → RunEnsures k p r b q' s' → SameRun a b p' q' r' s'
  -- its settings listed for the same rail, on the same seven runs
  pub listed : (j k : Job) → SameJob j k → (b : Rail) (p : PathRuns) (r : Reaches) (a c : Listed) (p' q' : PathRuns) (r' s' : Reaches)
      → ListEnsures j b p r a p' r' → ListEnsures k b p r c q' s' → SameRun a c p' q' r' s'
  -- there are two such jobs that differ, and two such records of their vehicles, with calls that are made and calls that are refused
  pub some_jobs : SomeJobs
  pub some_steps : SomeSteps some_jobs.one.vehicle some_jobs.other.vehicle
