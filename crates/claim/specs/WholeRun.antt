-- A whole job is laying, placing and step calls, one after the other until one is refused (01, "Rigs to try", the program sweep).
use Rattle.std.specs.Prelude.{ℕ, ◌-◌, ◌≡◌, List, [], ◌∷◌, length, Ok, Err}
use Rattle.refusal.specs.Numbers.{number_of}
use Rattle.refusal.specs.declared.Fault.{Fault}
use Rattle.job.specs.declared.Job.{Job}
use Rattle.job.specs.declared.Vehicle.{Vehicle}
use Rattle.marks.specs.Count.{point_count}
use Rattle.path.specs.Laying.{PathRuns, LayEnsures}
use Rattle.walk.specs.declared.Walk.{Walk}
use Rattle.walk.specs.Drawn.{view, Outcome, made, refused, refused_at}
use Rattle.reaches.specs.Cells.{Reaches}
use Rattle.reaches.specs.Widest.{widest_among, answer_of, widest_answer}
use Rattle.stations.specs.Placing as P
use Rattle.stations.specs.Placing.{Placing, call_of, PlaceEnsures}
use Rattle.run.specs.Ran.{Ran}
use Rattle.run.specs.Ran as R
use Rattle.run.specs.Run.{finish_at, RunEnsures}
use Rattle.claim.specs.DemandThree.{Turn, Chain, last_record}

-- calls over one path, each handed the runs that the call before left
unfoldable pub Handed : ℕ → PathRuns → Reaches → List Turn → Type 0
Handed asked path r [] = Unit {0}
Handed asked path r (t ∷ ts) = (t.before ≡ r) × (t.call ≡ call_of asked path r) × Handed asked path t.after ts

unfoldable pub last_runs : Reaches → List Turn → Reaches
last_runs r [] = r
last_runs r (t ∷ ts) = last_runs t.after ts

-- step calls until one is refused: every call but the last is made
unfoldable pub UntilRefused : List Turn → Type 0
UntilRefused [] = ⊥
UntilRefused (t ∷ []) = t.result.answer ≡ made → ⊥
UntilRefused (t ∷ u ∷ ts) = (t.result.answer ≡ made) × UntilRefused (u ∷ ts)

-- what the last of them answered
unfoldable pub last_answer : List Turn → Outcome
last_answer [] = made
last_answer (t ∷ []) = t.result.answer
last_answer (t ∷ u ∷ ts) = last_answer (u ∷ ts)

-- what these calls tell of a vehicle, over n stations, w being the record and r the runs that they left: refused by 25 the rig has come to the last station, by the calls before that one;
-- refused at a unit, it is that call which is named, counted from 1; by no other number are they refused
pub record Told (v : Vehicle) (w : Walk) (n : ℕ) (path : PathRuns) (r : Reaches) (ts : List Turn) (answer : Ran) : Type 0 where
  pub finished : last_answer ts ≡ refused 25 → answer ≡ R.finished (finish_at v (length ts - 1) n path r)
  pub stopped : (m u : ℕ) → last_answer ts ≡ refused_at m u → answer ≡ R.stopped m u (length ts)
  pub only : (m : ℕ) → last_answer ts ≡ refused m → m ≡ 25
  pub widest : answer_of (widest_among (point_count v) n r) ≡ widest_answer (view w) n r

-- a run of a job that answered, and what it left in the seven runs
pub record Run : Type 0 where
  pub job : Job
  pub path : PathRuns
  pub reaches : Reaches
  pub answer : Ran
  pub path_left : PathRuns
  pub reaches_left : Reaches

abbrev pub Ensured : Run → Type 0
Ensured x = RunEnsures x.job x.path x.reaches x.answer x.path_left x.reaches_left

-- refused, with nothing written
pub record Untouched (x : Run) (m : ℕ) : Type 0 where
  pub answer : x.answer ≡ R.refused m
  pub path : x.path_left ≡ x.path
  pub reaches : x.reaches_left ≡ x.reaches

-- the same as laying, then placing, then the calls
pub record Followed (x : Run) (placed : Walk) (n : ℕ) (laid : PathRuns) (after : Reaches) (ts : List Turn) : Type 0 where
  pub path : x.path_left ≡ laid
  pub reaches : x.reaches_left ≡ last_runs after ts
  pub told : Told x.job.vehicle (last_record placed ts) n laid (last_runs after ts) ts x.answer

-- the claim: where laying refuses, or placing on what was laid, the run refuses by that number before it writes; otherwise it is placing and step calls until one is refused
pub record WholeRun : Type 0 where
  pub not_laid : (x : Run) → Ensured x → (f : Fault) (laid : PathRuns) → LayEnsures x.job x.path (Err f) laid → Untouched x (number_of f)
  pub not_placed : (x : Run) → Ensured x → (n : ℕ) (laid : PathRuns) → LayEnsures x.job x.path (Ok n) laid
      → (w : Walk) (p : Placing) (after : Reaches) → PlaceEnsures x.job.vehicle w (call_of n laid x.reaches) x.reaches p after
      → (m : ℕ) → p.answer ≡ P.refused m → Untouched x m
  pub walked : (x : Run) → Ensured x → (n : ℕ) (laid : PathRuns) → LayEnsures x.job x.path (Ok n) laid
      → (w : Walk) (p : Placing) (after : Reaches) → PlaceEnsures x.job.vehicle w (call_of n laid x.reaches) x.reaches p after
      → p.answer ≡ P.placed
      → (ts : List Turn) → Chain p.walk ts → Handed n laid after ts → UntilRefused ts
      → Followed x p.walk n laid after ts
