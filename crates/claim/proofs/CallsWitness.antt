-- Walks that meet the premises: one whose calls get every answer that a step has, a job that is finished and one that is stopped.
use Prim.Native.Nat.{ℕ}
use mathlib.Core.Path.{◌≡◌, refl, ◌∙◌, ap}
use mathlib.Core.List.{List, [], ◌∷◌, map}
use lib.ListN.{length, replicate}
use lib.Seq.{sets}
use lib.IntN.{ℤ, pos, neg_ℤ}
use Rattle.exact.specs.Nearest.{half_to, nearest_size, nearest_z}
use Rattle.plane.specs.Length.{has_length}
use Rattle.job.specs.declared.Form.TheVariants.{Short}
use Rattle.job.specs.declared.Curve.TheVariants.{Straight}
use Rattle.job.specs.declared.Element.{Element}
use Rattle.job.specs.declared.Job.{Job}
use Rattle.job.specs.declared.Unit.{Unit as VehicleUnit}
use Rattle.job.specs.declared.Vehicle.{Vehicle}
use Rattle.job.specs.Allowed.{heading_allowed}
use Rattle.job.specs.Empty.{empty_body, empty_unit, empty_vehicle, empty_elements}
use Rattle.job.specs.Faults.{fault_of, units_fault, elements_fault, vehicle_fault, judge}
use Rattle.path.specs.Cuts.{full_steps, cuts_from}
use Rattle.path.specs.Stations.{steps_on, stations_from, stations}
use Rattle.path.specs.Laying.{PathRuns, path_runs}
use Rattle.unit.specs.Turn.{placed_by, turned_by, too_far}
use Rattle.unit.specs.Coupling.{hitch_offset, fold_allowed}
use Rattle.walk.specs.declared.Walk.{Walk}
use Rattle.walk.specs.Drawn.{Call, Outcome, made, refused, refused_at}
use Rattle.walk.specs.Tests.{lent, station_sound, path_sound, vehicle_sound, vector_sound, vectors_sound, record_sound, at_last}
use Rattle.walk.specs.Units.{turn_units}
use Rattle.walk.specs.Rig.{zero_vector, start_vectors, drawn_start, draw_step}
use Rattle.reaches.specs.Cells.{Reaches, reach_runs, lengths_of, at_stations, cleared}
use Rattle.stations.specs.Placing.{call_of, place_refusal, start_heading}
use Rattle.stations.specs.Placing as P
use Rattle.stations.proofs.PlaceLaws.{place_done}
use Rattle.run.specs.Ran.{as_ran}
use Rattle.run.specs.Run.{run_refusal}
use Rattle.claim.specs.DemandThree.{Turn}
use Rattle.claim.specs.WholeRun.{Run}
use Rattle.claim.specs.PremisesMet.{Handing, turn_answers, WalkAnswering, RunAnswering, PremisesMet}
use Rattle.claim.proofs.FaultsNamed.{lays}
use Rattle.claim.proofs.AnswersNamed.{step_told}
use Rattle.claim.proofs.CallsMade.{places, runs_of_lem, record_of, turns_over, over_chain, calls}
use Rattle.claim.proofs.CallsThere.{turns_until, turns_there, calls_there, turns_are, run_calls_lem}
use Rattle.claim.proofs.RefusedThere.{run_refused_lem}

-- a record that no walk has left
abbrev no_walk : Walk
no_walk = record { vehicle = empty_vehicle; station = 0; d = replicate 4 zero_vector }

-- two units in line due north, the second of which may hardly fold
abbrev unit_of : ℤ → VehicleUnit
unit_of limit = record { wheelbase = 50000; hitch = pos 0; fold = limit; body = empty_body }

abbrev rig : Vehicle
rig = record { form = Short; count = 2; units = unit_of (pos 0) ∷ unit_of (pos 990) ∷ empty_unit ∷ empty_unit ∷ []; overhang = 0; front_half_width = 1000; rear_half_width = 1000 }

-- a path of two stations, from the origin to (x, y)
abbrev path_to : ℤ → ℤ → PathRuns
path_to x y = path_runs (pos 0 ∷ x ∷ []) (pos 0 ∷ y ∷ []) (pos 0 ∷ pos 0 ∷ []) (pos 1000000 ∷ pos 1000000 ∷ [])

abbrev runs : Reaches
runs = reach_runs (pos 0 ∷ pos 0 ∷ []) (pos 0 ∷ pos 0 ∷ []) (0 ∷ 255 ∷ [])

abbrev call : ℕ → ℤ → ℤ → Call
call asked x y = call_of asked (path_to x y) runs

abbrev handing : ℕ → ℤ → ℤ → Handing
handing asked x y = record { call = call asked x y; before = runs }

-- no station asked for; a station too far off; a move that folds the second unit; one longer than the first unit; a step; a station beyond the last; the last reached
abbrev handings : List Handing
handings =
    handing 0 (pos 0) (pos 5000)
    ∷ handing 2 (pos 150000001) (pos 5000)
    ∷ handing 2 (pos 30000) (neg_ℤ (pos 10000))
    ∷ handing 2 (pos 0) (pos 50001)
    ∷ handing 2 (pos 0) (pos 5000)
    ∷ handing 1 (pos 0) (pos 5000)
    ∷ handing 2 (pos 0) (pos 5000)
    ∷ []

abbrev placed : Walk
placed = record_of (drawn_start rig (start_heading (call 2 (pos 0) (pos 5000))))

none_refused : place_refusal rig (call 2 (pos 0) (pos 5000)) ≡ 0
unfolding has_length fault_of units_fault vehicle_fault lent station_sound path_sound vehicle_sound place_refusal
none_refused = refl

all_answers : turn_answers (turns_over placed handings) ≡ refused 21 ∷ refused 26 ∷ refused_at 23 2 ∷ refused_at 22 1 ∷ made ∷ refused 27 ∷ refused 25 ∷ []
unfolding half_to nearest_size nearest_z has_length fault_of units_fault vehicle_fault placed_by turned_by too_far hitch_offset fold_allowed lent station_sound path_sound vehicle_sound vector_sound vectors_sound record_sound at_last turn_units start_vectors draw_step turns_over
all_answers = refl

own_lengths : map (λ (t : Turn). t.call.reaches) (turns_over placed handings) ≡ map (λ (t : Turn). lengths_of t.before) (turns_over placed handings)
unfolding turns_over
own_lengths = refl

pub walk_met : WalkAnswering (refused 21 ∷ refused 26 ∷ refused_at 23 2 ∷ refused_at 22 1 ∷ made ∷ refused 27 ∷ refused 25 ∷ [])
walk_met = record {
  vehicle = rig;
  walk = no_walk;
  asked = 2;
  path = path_to (pos 0) (pos 5000);
  before = runs;
  placing = record { answer = P.placed; walk = placed };
  after = cleared 2 runs;
  ensured = place_done rig no_walk (call 2 (pos 0) (pos 5000)) runs placed (cleared 2 runs) none_refused refl refl;
  placed = refl;
  turns = turns_over placed handings;
  lengths = own_lengths;
  chain = over_chain placed handings;
  answered = all_answers;
}

-- a unit of the shortest wheelbase on a straight due north: the job's step, and the lengths of its elements
abbrev straight : ℕ → Element
straight l = record { length = l; curve = Straight }

abbrev job_on : ℕ → List ℕ → Job
job_on step ls = record {
  vehicle = record { form = Short; count = 1; units = record { wheelbase = 5000; hitch = pos 0; fold = pos 0; body = empty_body } ∷ empty_unit ∷ empty_unit ∷ empty_unit ∷ []; overhang = 0; front_half_width = 1000; rear_half_width = 1000 };
  start = record { x = pos 0; y = pos 0; gx = pos 0; gy = pos 1000000 };
  step = step;
  count = length ls;
  elements = sets empty_elements 0 (map straight ls);
}

-- runs of three entries
abbrev three_zeros : List ℤ
three_zeros = replicate 3 (pos 0)

abbrev path_room : PathRuns
path_room = path_runs three_zeros three_zeros three_zeros three_zeros

abbrev reach_room : Reaches
reach_room = reach_runs three_zeros three_zeros (replicate 3 0)

abbrev run_of : Job → Run
run_of j =
    let x = runs_of_lem j path_room reach_room in
    record { job = j; path = path_room; reaches = reach_room; answer = as_ran x.answer; path_left = x.path_left; reaches_left = x.reaches_left }

-- a run whose calls answer so
met_by : (j : Job) (answers : List Outcome) → run_refusal j path_room reach_room ≡ 0 → turn_answers (turns_there (run_of j)) ≡ answers → RunAnswering answers
met_by j answers none e =
    record {
      run = run_of j;
      ensured = (runs_of_lem j path_room reach_room).ensured;
      walk = no_walk;
      calls = calls_there (run_of j) no_walk none;
      answered = ap turn_answers (turns_are (run_of j) no_walk none) ∙ e;
    }

-- "step 5,000 passes"
pub finished_met : RunAnswering (made ∷ refused 25 ∷ [])
unfolding half_to nearest_size nearest_z has_length fault_of units_fault elements_fault vehicle_fault heading_allowed judge empty_elements full_steps cuts_from steps_on stations_from stations run_refusal placed_by turned_by too_far hitch_offset fold_allowed lent station_sound path_sound vehicle_sound vector_sound vectors_sound record_sound at_last turn_units start_vectors draw_step at_stations turns_until
finished_met = met_by (job_on 5000 (5000 ∷ [])) (made ∷ refused 25 ∷ []) refl refl

-- "5,001 is 22"
pub stopped_met : RunAnswering (made ∷ refused_at 22 1 ∷ [])
unfolding half_to nearest_size nearest_z has_length fault_of units_fault elements_fault vehicle_fault heading_allowed judge empty_elements full_steps cuts_from steps_on stations_from stations run_refusal placed_by turned_by too_far hitch_offset fold_allowed lent station_sound path_sound vehicle_sound vector_sound vectors_sound record_sound at_last turn_units start_vectors draw_step at_stations turns_until
stopped_met = met_by (job_on 5001 (5000 ∷ 5001 ∷ [])) (made ∷ refused_at 22 1 ∷ []) refl refl

pub premises_met_lem : PremisesMet
premises_met_lem = record { lay = lays; place = places; step = calls; told = step_told; run = runs_of_lem; run_calls = run_calls_lem; run_refused = run_refused_lem; walked = walk_met; finished = finished_met; stopped = stopped_met }
