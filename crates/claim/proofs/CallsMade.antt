-- Every entry answers whatever it is handed: its outcome by the definitions that its contract cites.
use mathlib.Core.Path.{◌≡◌, refl, sym, ap}
use mathlib.Core.Bool.{Bool, true, false}
use mathlib.Core.List.{List, [], ◌∷◌, map}
use lib.ListN.{length}
use Rattle.std.specs.Prelude.{Ok, Err}
use Rattle.refusal.specs.Numbers.{number_of}
use Rattle.number.specs.Read.{pick}
use Rattle.job.specs.declared.Job.{Job}
use Rattle.job.specs.declared.Vehicle.{Vehicle}
use Rattle.job.proofs.FaultLaws.{numbered}
use Rattle.path.specs.Stations.{stations}
use Rattle.path.specs.Laying.{PathRuns}
use Rattle.walk.specs.declared.Walk.{Walk}
use Rattle.walk.specs.Drawn.{Drawn, view, Call, made, station_at}
use Rattle.walk.specs.Tests.{lent, path_sound, record_sound, at_last}
use Rattle.walk.specs.Units.{Turning, turned, stopped}
use Rattle.walk.specs.Rig.{Stepped, drawn_start, turning_of, after_turning, turned_down, draw_step}
use Rattle.reaches.specs.Cells.{Reaches, cleared}
use Rattle.reaches.specs.Crossing.{crossed}
use Rattle.stations.specs.Placing.{place_refusal, unless_refused, start_heading}
use Rattle.stations.specs.Stepping.{points_at, if_made, StepEnsures}
use Rattle.stations.proofs.PlaceLaws.{place_refused, place_done}
use Rattle.run.specs.Walking.{steps_left}
use Rattle.run.specs.Run.{ran_over, run_refusal, ran_answer, job_path, job_course}
use Rattle.claim.specs.DemandThree.{Turn, Chain}
use Rattle.claim.specs.PremisesMet.{Placement, JobRun, Handing, handing_of, Calls}
use Rattle.claim.proofs.FaultsNamed.{Named, none, named}
use Rattle.claim.proofs.AnswersNamed.{place_named, run_named, walk_says, RanSays, ran_says, run_says}

-- a whole job
pub runs_of_lem : (j : Job) (p : PathRuns) (r : Reaches) → JobRun j p r
runs_of_lem j p r =
    let n = length (stations j) in
    let start = drawn_start j.vehicle (station_at (job_path j p) 0).heading in
    let walked = walk_says (steps_left n start) n (job_path j p) start (cleared n r) in
    by (run_says n (job_path j p) (job_course j p r) walked (run_refusal j p r) (run_named j p r))
  where
    by : RanSays (ran_answer (run_refusal j p r) (ran_over (length (stations j)) (job_path j p) (job_course j p r))) → JobRun j p r
    by (ran_says a e) = record {
      answer = a;
      path_left = unless_refused (run_refusal j p r) (job_path j p) p;
      reaches_left = unless_refused (run_refusal j p r) (job_course j p r).runs r;
      ensured = record { answered = e; path = refl; reaches = refl };
    }

-- the record that shows a state of the drawn rig
abbrev pub record_of : Drawn → Walk
record_of s = record { vehicle = s.vehicle; station = s.station; d = s.vectors }

-- placing
pub places : (v : Vehicle) (w : Walk) (c : Call) (before : Reaches) → Placement v w c before
places v w c before = by (place_named v c)
  where
    by : Named (place_refusal v c) → Placement v w c before
    by (none e) = record {
      answer = Ok tt;
      walk = record_of (drawn_start v (start_heading c));
      after = cleared c.asked before;
      ensured = place_done v w c before (record_of (drawn_start v (start_heading c))) (cleared c.asked before) e refl refl;
    }
    by (named f e) = record {
      answer = Err f;
      walk = w;
      after = before;
      ensured = place_refused v w c before (number_of f) (sym e) (numbered f);
    }

-- a step that is not made leaves the state
module _ (s : Drawn) (c : Call) where
  turned_left : (t : Turning) → ((after_turning s t).answer ≡ made → ⊥) → (after_turning s t).state ≡ s
  turned_left (turned ds) h = absurd (h refl)
  turned_left (stopped n u) h = refl

  left_by_lem : (a b d l : Bool) (r : Stepped) → ((r.answer ≡ made → ⊥) → r.state ≡ s) → let x = pick a (pick b (pick d (pick l (turned_down s 25) r) (turned_down s 27)) (turned_down s 26)) (turned_down s 21) in (x.answer ≡ made → ⊥) → x.state ≡ s
  left_by_lem false b d l r k h = refl
  left_by_lem true false d l r k h = refl
  left_by_lem true true false l r k h = refl
  left_by_lem true true true true r k h = refl
  left_by_lem true true true false r k h = k h

  state_left : ((draw_step s c).answer ≡ made → ⊥) → (draw_step s c).state ≡ s
  unfolding draw_step
  state_left = left_by_lem (lent c) (path_sound c.asked c.path) (record_sound c.asked s) (at_last c.asked s) (after_turning s (turning_of s c)) (turned_left (turning_of s c))

-- one step call, as the drawn rig answers it
abbrev pub turn_of : Walk → Call → Reaches → Turn
turn_of w c r = record {
  call = c;
  before = r;
  result = record { answer = (draw_step (view w) c).answer; walk = record_of (draw_step (view w) c).state };
  after = if_made (draw_step (view w) c).answer (crossed c.asked c.path (points_at (view w) c) (points_at (draw_step (view w) c).state c) r) r;
}

pub turn_ensured : (w : Walk) (c : Call) (r : Reaches) → let t = turn_of w c r in StepEnsures w c r t.result t.after
turn_ensured w c r = record { stepped = refl; unchanged = λ h. ap record_of (state_left (view w) c h); runs = refl }

-- any list of calls, from any record
unfoldable pub turns_over : Walk → List Handing → List Turn
turns_over w [] = []
turns_over w (h ∷ hs) = turn_of w h.call h.before ∷ turns_over (turn_of w h.call h.before).result.walk hs

over_handed : (w : Walk) (hs : List Handing) → map handing_of (turns_over w hs) ≡ hs
unfolding turns_over
over_handed w [] = refl
over_handed w (h ∷ hs) = ap (λ (l : List Handing). h ∷ l) (over_handed (turn_of w h.call h.before).result.walk hs)

pub over_chain : (w : Walk) (hs : List Handing) → Chain w (turns_over w hs)
unfolding turns_over Chain
over_chain w [] = tt
over_chain w (h ∷ hs) = (turn_ensured w h.call h.before, over_chain (turn_of w h.call h.before).result.walk hs)

pub calls : (w : Walk) (hs : List Handing) → Calls w hs
calls w hs = record { turns = turns_over w hs; handed = over_handed w hs; chain = over_chain w hs }
