-- The premises of the claims over calls can be met: every entry answers whatever it is handed, any list of step calls can be made from any record,
-- the calls of a whole run are there, and there are walks with made steps and refused ones.
use Rattle.std.specs.Prelude.{ℕ, ◌≡◌, List, [], ◌∷◌, map, Result, Ok, Err}
use Rattle.refusal.specs.Numbers.{number_of}
use Rattle.refusal.specs.declared.Fault.{Fault}
use Rattle.job.specs.declared.Job.{Job}
use Rattle.job.specs.declared.Vehicle.{Vehicle}
use Rattle.path.specs.Laying.{PathRuns, LayEnsures}
use Rattle.walk.specs.declared.Walk.{Walk}
use Rattle.walk.specs.declared.StepRefusal.{StepRefusal}
use Rattle.walk.specs.Drawn.{Drawn, Call, Outcome, made, refused, refused_at, outcome_of}
use Rattle.walk.specs.Rig.{draw_step}
use Rattle.reaches.specs.Cells.{Reaches, lengths_of}
use Rattle.stations.specs.Placing as P
use Rattle.stations.specs.Placing.{Placing, as_placed, call_of, PlaceEnsures}
use Rattle.run.specs.declared.Finish.{Finish}
use Rattle.run.specs.declared.RunRefusal.{RunRefusal}
use Rattle.run.specs.Ran.{as_ran}
use Rattle.run.specs.Ran as R
use Rattle.run.specs.Run.{RunEnsures}
use Rattle.claim.specs.DemandThree.{Turn, Chain}
use Rattle.claim.specs.WholeRun.{Handed, UntilRefused, Run, Ensured}

-- what laying answers and leaves, handed these
pub record Laying (j : Job) (before : PathRuns) : Type 0 where
  pub answer : Result ℕ Fault
  pub after : PathRuns
  pub ensured : LayEnsures j before answer after

-- what placing answers and leaves
pub record Placement (v : Vehicle) (w : Walk) (c : Call) (before : Reaches) : Type 0 where
  pub answer : Result (Unit {0}) Fault
  pub walk : Walk
  pub after : Reaches
  pub ensured : PlaceEnsures v w c before (record { answer = as_placed answer; walk = walk }) after

-- what a whole job answers and leaves
pub record JobRun (j : Job) (path : PathRuns) (reaches : Reaches) : Type 0 where
  pub answer : Result Finish RunRefusal
  pub path_left : PathRuns
  pub reaches_left : Reaches
  pub ensured : RunEnsures j path reaches (as_ran answer) path_left reaches_left

-- a step call has an answer that says what the drawn rig answers
pub record Told (s : Drawn) (c : Call) : Type 0 where
  pub answer : Result (Unit {0}) StepRefusal
  pub told : outcome_of answer ≡ (draw_step s c).answer

-- what a step call is handed: its arguments, and what the runs hold
pub record Handing : Type 0 where
  pub call : Call
  pub before : Reaches

abbrev pub handing_of : Turn → Handing
handing_of t = record { call = t.call; before = t.before }

-- step calls, one after the other, each handed what the list says
pub record Calls (w : Walk) (hs : List Handing) : Type 0 where
  pub turns : List Turn
  pub handed : map handing_of turns ≡ hs
  pub chain : Chain w turns

-- the calls that a run is compared with in `whole_run`: its path laid, its vehicle placed over some record, and step calls until one is refused
pub record RunCalls (x : Run) (w : Walk) : Type 0 where
  pub n : ℕ
  pub path : PathRuns
  pub laid : LayEnsures x.job x.path (Ok n) path
  pub placing : Placing
  pub after : Reaches
  pub ensured : PlaceEnsures x.job.vehicle w (call_of n path x.reaches) x.reaches placing after
  pub placed : placing.answer ≡ P.placed
  pub turns : List Turn
  pub chain : Chain placing.walk turns
  pub handed : Handed n path after turns
  pub until : UntilRefused turns

-- what refuses a run that is refused by m, in `whole_run`: its laying, or placing over what was laid
pub data RunRefused (x : Run) (w : Walk) (m : ℕ) : Type 0 where
  not_laid : (f : Fault) (path : PathRuns) → LayEnsures x.job x.path (Err f) path → number_of f ≡ m → RunRefused x w m
  not_placed : (n : ℕ) (path : PathRuns) (f : Fault) (left : Walk) (after : Reaches) → LayEnsures x.job x.path (Ok n) path
      → PlaceEnsures x.job.vehicle w (call_of n path x.reaches) x.reaches (record { answer = as_placed (Err f); walk = left }) after
      → number_of f ≡ m → RunRefused x w m

abbrev pub turn_answers : List Turn → List Outcome
turn_answers ts = map (λ (t : Turn). t.result.answer) ts

-- an accepted placement and step calls after it, each telling the lengths of the runs that it is lent, with these answers: what `demand_three` speaks of
pub record WalkAnswering (answers : List Outcome) : Type 0 where
  pub vehicle : Vehicle
  pub walk : Walk
  pub asked : ℕ
  pub path : PathRuns
  pub before : Reaches
  pub placing : Placing
  pub after : Reaches
  pub ensured : PlaceEnsures vehicle walk (call_of asked path before) before placing after
  pub placed : placing.answer ≡ P.placed
  pub turns : List Turn
  pub lengths : map (λ (t : Turn). t.call.reaches) turns ≡ map (λ (t : Turn). lengths_of t.before) turns
  pub chain : Chain placing.walk turns
  pub answered : turn_answers turns ≡ answers

-- a run and its calls, with these answers: what `whole_run` speaks of
pub record RunAnswering (answers : List Outcome) : Type 0 where
  pub run : Run
  pub ensured : Ensured run
  pub walk : Walk
  pub calls : RunCalls run walk
  pub answered : turn_answers calls.turns ≡ answers

-- the claim; one walk meets every answer that a step call has
pub record PremisesMet : Type 0 where
  pub lay : (j : Job) (before : PathRuns) → Laying j before
  pub place : (v : Vehicle) (w : Walk) (c : Call) (before : Reaches) → Placement v w c before
  pub step : (w : Walk) (hs : List Handing) → Calls w hs
  pub told : (s : Drawn) (c : Call) → Told s c
  pub run : (j : Job) (path : PathRuns) (reaches : Reaches) → JobRun j path reaches
  pub run_calls : (x : Run) → Ensured x → ((m : ℕ) → x.answer ≡ R.refused m → ⊥) → (w : Walk) → RunCalls x w
  pub run_refused : (x : Run) → Ensured x → (m : ℕ) → x.answer ≡ R.refused m → (w : Walk) → RunRefused x w m
  pub walked : WalkAnswering (refused 21 ∷ refused 26 ∷ refused_at 23 2 ∷ refused_at 22 1 ∷ made ∷ refused 27 ∷ refused 25 ∷ [])
  pub finished : RunAnswering (made ∷ refused 25 ∷ [])
  pub stopped : RunAnswering (made ∷ refused_at 22 1 ∷ [])
