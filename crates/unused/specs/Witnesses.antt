-- The premises of `Unused` can be met by jobs and walk records that are not equal: two of each that differ in unused entries alone, and calls on both.
use Rattle.std.specs.Prelude.{ℕ, ◌≡◌, Ok, replicate, take}
use Rattle.job.specs.declared.Vehicle.{Vehicle}
use Rattle.job.specs.declared.Job.{Job}
use Rattle.job.specs.Faults.{judge}
use Rattle.job_reader.specs.Worked.{worked_record}
use Rattle.job_writer.specs.Answers.{WriteEnsures}
use Rattle.path.specs.Laying.{PathRuns, LayEnsures}
use Rattle.walk.specs.declared.Walk.{Walk}
use Rattle.walk.specs.Drawn.{view, Outcome}
use Rattle.walk.specs.Drawn as D
use Rattle.reaches.specs.declared.Place.{Place}
use Rattle.refusal.specs.Numbers as W
use Rattle.reaches.specs.Cells.{Reaches}
use Rattle.reaches.specs.Widest.{widest_answer}
use Rattle.stations.specs.Placing as P
use Rattle.stations.specs.Placing.{call_of, PlaceEnsures}
use Rattle.stations.specs.Stepping.{StepEnsures}
use Rattle.run.specs.Ran as R
use Rattle.run.specs.Run.{RunEnsures}
use Rattle.run.specs.Worked.{worked_finish}
use Rattle.unused.specs.Same.{SameJob, SameRig}

-- a job without a fault that is written as the worked record, laid as 14 stations and, lent these seven runs, run to the worked end
pub record RunsAsWorked (j : Job) (path : PathRuns) (reaches : Reaches) : Type 0 where
  pub no_fault : judge j ≡ 0
  pub written : WriteEnsures j (replicate 25 0) (Ok 25) worked_record
  pub path_left : PathRuns
  pub laid : LayEnsures j path (Ok 14) path_left
  pub reaches_left : Reaches
  pub ran : RunEnsures j path reaches (R.finished worked_finish) path_left reaches_left

-- two jobs that agree but for unused entries, and differ in an unused unit, in a short job's body and in an unused element; both run so, lent the same runs
pub record SomeJobs : Type 0 where
  pub one : Job
  pub other : Job
  pub same : SameJob one other
  pub units_differ : one.vehicle.units ≡ other.vehicle.units → ⊥
  pub bodies_differ : take one.vehicle.count one.vehicle.units ≡ take other.vehicle.count other.vehicle.units → ⊥
  pub elements_differ : one.elements ≡ other.elements → ⊥
  pub path : PathRuns
  pub reaches : Reaches
  pub one_runs : RunsAsWorked one path reaches
  pub other_runs : RunsAsWorked other path reaches

-- two records that agree but for unused entries, and differ; a step call at each, over the same path and runs, has this answer and leaves two records
pub record StepsOfBoth (w x : Walk) (answer : Outcome) : Type 0 where
  pub same : SameRig (view w) (view x)
  pub differ : w ≡ x → ⊥
  pub asked : ℕ
  pub path : PathRuns
  pub before : Reaches
  pub one : Walk
  pub other : Walk
  pub after : Reaches
  pub one_ensured : StepEnsures w (call_of asked path before) before (record { answer = answer; walk = one }) after
  pub other_ensured : StepEnsures x (call_of asked path before) before (record { answer = answer; walk = other }) after

-- two vehicles placed over the same path and runs, whatever record each is handed; then both make a step and are refused the next by 25, and both are refused a longer first step by 22;
-- asked for the widest place of the runs as they were lent, both tell the same
pub record SomeSteps (v u : Vehicle) : Type 0 where
  pub asked : ℕ
  pub path : PathRuns
  pub before : Reaches
  pub one : Walk
  pub other : Walk
  pub after : Reaches
  pub one_placed : (w : Walk) → PlaceEnsures v w (call_of asked path before) before (record { answer = P.placed; walk = one }) after
  pub other_placed : (w : Walk) → PlaceEnsures u w (call_of asked path before) before (record { answer = P.placed; walk = other }) after
  pub widest : Place
  pub one_asked : widest_answer (view one) asked before ≡ W.answered widest
  pub other_asked : widest_answer (view other) asked before ≡ W.answered widest
  pub made : StepsOfBoth one other D.made
  pub at_last : StepsOfBoth made.one made.other (D.refused 25)
  pub too_far : StepsOfBoth one other (D.refused_at 22 1)
