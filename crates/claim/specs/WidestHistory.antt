-- Where the rig is widest, told from the moves of the drawn rig and not from the runs (01, "Stations and the widest place").
use Rattle.std.specs.Prelude.{ℕ, ◌+◌, ◌<◌, ◌≡◌, None, Some, List, length, replicate, ℤ, pos, negsuc, ◌-ℤ◌, ◌≤ℤ◌, ◌<ℤ◌}
use Rattle.marks.specs.Count.{point_count}
use Rattle.path.specs.declared.Station.{Station}
use Rattle.path.specs.Stations.{stations}
use Rattle.path.specs.Laying.{PathRuns, written}
use Rattle.walk.specs.declared.Walk.{Walk}
use Rattle.walk.specs.Drawn.{Drawn, view, Call, station_at, made}
use Rattle.walk.specs.Rig.{drawn_start}
use Rattle.reaches.specs.declared.Place.{Place}
use Rattle.refusal.specs.Numbers.{Answer}
use Rattle.refusal.specs.Numbers as W
use Rattle.reaches.specs.Widest.{widest_answer}
use Rattle.stations.specs.Placing.{call_of, start_heading}
use Rattle.run.specs.declared.Finish.{Finish}
use Rattle.run.specs.Ran as R
use Rattle.claim.specs.DemandThree.{drawn_answers, last_record}
use Rattle.claim.specs.StationHistory.{Moves, made_moves, left_of, right_of, AllCrossed, History, Lawful, moves_of, runs_of}
use Rattle.claim.specs.WholeRun.{Run, Ensured}
use Rattle.run.specs.Worked.{worked_job, worked_finish}

-- the record that the last call left
abbrev pub last_of : History → Walk
last_of h = last_record h.placing.walk h.turns

abbrev pub width_of : Station → List Moves → ℤ
width_of s ms = right_of s ms -ℤ left_of s ms

-- "The widest is the complete station with the greatest right minus left, lowest number among equals":
-- the whole rig, n points, has crossed it, no station that the whole rig has crossed is wider, and none before it is as wide
pub record IsWidest (n asked : ℕ) (path : PathRuns) (ms : List Moves) (p : Place) : Type 0 where
  pub inside : p.station < asked
  pub whole : AllCrossed n (station_at path p.station) ms
  pub left : p.left ≡ left_of (station_at path p.station) ms
  pub right : p.right ≡ right_of (station_at path p.station) ms
  pub width : p.width ≡ width_of (station_at path p.station) ms
  pub greatest : (i : ℕ) → i < asked → AllCrossed n (station_at path i) ms → width_of (station_at path i) ms ≤ℤ p.width
  pub earliest : (i : ℕ) → i < p.station → AllCrossed n (station_at path i) ms → width_of (station_at path i) ms <ℤ p.width

abbrev pub NoneWhole : ℕ → ℕ → PathRuns → List Moves → Type 0
NoneWhole n asked path ms = (i : ℕ) → i < asked → AllCrossed n (station_at path i) ms → ⊥

-- an answer that has a case for a place and one for none: a place exactly where it is the widest, none exactly where there is none, and no other
pub record Tells {A : Type 0} (at : Place → A) (none : A) (n asked : ℕ) (path : PathRuns) (ms : List Moves) (answer : A) : Type 0 where
  pub place : (p : Place) → answer ≡ at p → IsWidest n asked path ms p
  pub only_place : (p : Place) → IsWidest n asked path ms p → answer ≡ at p
  pub nowhere : answer ≡ none → NoneWhole n asked path ms
  pub only_nowhere : NoneWhole n asked path ms → answer ≡ none
  pub no_other : ((p : Place) → answer ≡ at p → ⊥) → answer ≡ none

-- the step calls of a run, as the drawn rig is fed them
abbrev pub run_call : Run → Call
run_call x = call_of (length (stations x.job)) x.path_left x.reaches

abbrev pub run_start : Run → Drawn
run_start x = drawn_start x.job.vehicle (start_heading (run_call x))

abbrev pub run_calls : Run → ℕ → List Call
run_calls x n = replicate n (run_call x)

-- a finished run: the job's stations stand in the path's runs; of as many calls as it has steps the drawn rig makes each and has come to the last station; the widest place is that of these moves
pub record FinishTold (x : Run) (f : Finish) : Type 0 where
  pub path : x.path_left ≡ written (stations x.job) x.path
  pub steps : f.steps + 1 ≡ length (stations x.job)
  pub answers : drawn_answers (run_start x) (run_calls x f.steps) ≡ replicate f.steps made
  pub widest : Tells Some None (point_count x.job.vehicle) (length (stations x.job)) x.path_left (made_moves (run_start x) (run_calls x f.steps)) f.widest

-- stations are as wide as each other: the lowest number is answered, of a rig 2,000 ticks wide on a straight
abbrev pub lowest : Place
lowest = record { station = 1; width = pos 2000; left = negsuc 999; right = pos 1000 }

-- the claim: of what `widest` answers after an accepted placement and any calls, handed the record that the last of them left, and of what a run that is finished answers;
-- and there are such calls, with a later station as wide, or none that the whole rig has crossed, and such a run: the worked job
pub record WidestHistory : Type 0 where
  pub asked : (h : History) → Lawful h → (answer : Answer Place) → answer ≡ widest_answer (view (last_of h)) h.asked (runs_of h)
      → Tells W.answered (W.refused 24) (point_count h.vehicle) h.asked h.path (moves_of h) answer
  pub ran : (x : Run) → Ensured x → (f : Finish) → x.answer ≡ R.finished f → FinishTold x f
  pub some_tie : (h : History) × Lawful h × (widest_answer (view (last_of h)) h.asked (runs_of h) ≡ W.answered lowest)
      × AllCrossed (point_count h.vehicle) (station_at h.path 2) (moves_of h) × (width_of (station_at h.path 2) (moves_of h) ≡ pos 2000)
  pub some_none : (h : History) × Lawful h × (widest_answer (view (last_of h)) h.asked (runs_of h) ≡ W.refused 24)
  pub some_run : (x : Run) × Ensured x × (x.job ≡ worked_job) × (x.answer ≡ R.finished worked_finish)
