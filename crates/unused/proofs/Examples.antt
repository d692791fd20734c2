-- The worked job of 01, "Rigs to try", and the same with another unused unit, another body and another unused element: both run, placed and stepped, by computing. Assumes nothing.
use Prim.Native.Nat.{ℕ}
use mathlib.Core.Path.{◌≡◌, refl, ap}
use mathlib.Core.List.{List, [], ◌∷◌}
use native.Mathlib.Omega.{arith}
use lib.ListN.{get_or, replicate, set, take}
use lib.IntN.{ℤ, pos, negsuc}
use Rattle.exact.specs.Nearest.{nearest_size, nearest_z}
use Rattle.number.specs.Read.{write_many}
use Rattle.number.specs.Number.{write_groups, write_number}
use Rattle.plane.specs.Length.{has_length}
use Rattle.job.specs.declared.Side.TheVariants.{Left}
use Rattle.job.specs.declared.Curve.TheVariants.{Arc}
use Rattle.job.specs.declared.Element.{Element}
use Rattle.job.specs.declared.Body.{Body}
use Rattle.job.specs.declared.Unit.{Unit as VehicleUnit}
use Rattle.job.specs.declared.Vehicle.{Vehicle}
use Rattle.job.specs.declared.Job.{Job}
use Rattle.job.specs.Allowed.{heading_allowed}
use Rattle.job.specs.Empty.{empty_unit, empty_element, empty_units, empty_elements}
use Rattle.job.specs.Faults.{fault_of, units_fault, elements_fault, vehicle_fault, judge}
use Rattle.job_writer.specs.Write.{write_job}
use Rattle.path.specs.Cuts.{full_steps, cuts_from}
use Rattle.path.specs.Stations.{steps_on, stations_from, stations}
use Rattle.path.specs.Laying.{PathRuns, path_runs}
use Rattle.path.proofs.JobLaws.{laid_answered}
use Rattle.unit.specs.Turn.{placed_by, turned_by, too_far}
use Rattle.walk.specs.declared.Walk.{Walk}
use Rattle.walk.specs.Drawn.{view, Outcome}
use Rattle.walk.specs.Drawn as D
use Rattle.walk.specs.Tests.{lent, station_sound, path_sound, vehicle_sound, vector_sound, vectors_sound, record_sound, at_last}
use Rattle.walk.specs.Units.{turn_units}
use Rattle.walk.specs.Rig.{zero_vector, start_vectors, draw_step}
use Rattle.marks.specs.Count.{point_count}
use Rattle.marks.specs.Marks.{all_set}
use Rattle.points.specs.Corners.{body_of, front_corner, rear_corner, corner_of}
use Rattle.points.specs.Ends.{unit_places}
use Rattle.points.specs.Points.{point_at, rig_points}
use Rattle.reaches.specs.Cells.{Reaches, reach_runs, at_stations}
use Rattle.reaches.specs.Crossing.{reach_of, crosses, crossed_by, crossed_from}
use Rattle.reaches.specs.declared.Place.{Place}
use Rattle.refusal.specs.Numbers as W
use Rattle.reaches.specs.Widest.{widest_among, widest_lent, widest_answer}
use Rattle.stations.specs.Placing as P
use Rattle.stations.specs.Placing.{call_of, place_refusal, PlaceEnsures}
use Rattle.stations.specs.Stepping.{StepEnsures}
use Rattle.stations.proofs.PlaceLaws.{place_done}
use Rattle.run.specs.Walking.{walk_on}
use Rattle.run.specs.Run.{run_refusal, job_path, job_course}
use Rattle.run.specs.Worked.{worked_job}
use Rattle.unused.specs.Same.{SameJob}
use Rattle.unused.specs.Witnesses.{RunsAsWorked, SomeJobs, StepsOfBoth, SomeSteps}

-- the worked job with this unit and this element in its last places, which are not in use, and this unit's body on the first, whose job is short
abbrev bodied : VehicleUnit → Body → VehicleUnit
bodied u b = record { wheelbase = u.wheelbase; hitch = u.hitch; fold = u.fold; body = b }

abbrev vehicle_with : VehicleUnit → Vehicle
vehicle_with u =
    let v = worked_job.vehicle in
    record { form = v.form; count = v.count; units = set (set v.units 3 u) 0 (bodied (get_or v.units 0 empty_unit) u.body); overhang = v.overhang; front_half_width = v.front_half_width; rear_half_width = v.rear_half_width }

abbrev job_with : VehicleUnit → Element → Job
job_with u e = record { vehicle = vehicle_with u; start = worked_job.start; step = worked_job.step; count = worked_job.count; elements = set worked_job.elements 63 e }

-- runs of zeros, one entry a station
abbrev zeros : List ℤ
zeros = replicate 14 (pos 0)

abbrev path_room : PathRuns
path_room = path_runs zeros zeros zeros zeros

abbrev reach_room : Reaches
reach_room = reach_runs zeros zeros (replicate 14 0)

runs_as_worked : (u : VehicleUnit) (e : Element) → RunsAsWorked (job_with u e) path_room reach_room
unfolding nearest_size nearest_z has_length heading_allowed empty_units empty_elements fault_of units_fault elements_fault vehicle_fault judge full_steps cuts_from steps_on stations_from stations placed_by turned_by too_far lent station_sound path_sound vehicle_sound vector_sound vectors_sound record_sound at_last turn_units start_vectors draw_step unit_places body_of front_corner rear_corner corner_of point_count all_set point_at rig_points at_stations reach_of crosses crossed_by crossed_from widest_among walk_on run_refusal write_many write_groups write_number write_job
runs_as_worked u e = record {
  no_fault = refl;
  written = record { answer = refl; written = refl; units = refl; elements = refl };
  path_left = job_path (job_with u e) path_room;
  laid = laid_answered (job_with u e) path_room refl refl;
  reaches_left = (job_course (job_with u e) path_room reach_room).runs;
  ran = record { answered = refl; path = refl; reaches = refl };
}

-- a unit, a body and an element that are faults, 4, 5 and 8, where they are in use
abbrev wrong_unit : VehicleUnit
wrong_unit = record { wheelbase = 1; hitch = pos 2; fold = pos 3; body = record { front_overhang = 1; rear_overhang = 50001; half_width = 1 } }

abbrev wrong_element : Element
wrong_element = record { length = 1; curve = Arc Left 1 }

jobs_same : SameJob (job_with empty_unit empty_element) (job_with wrong_unit wrong_element)
unfolding empty_units empty_elements
jobs_same = record { vehicle = record { form = refl; count = refl; units = refl; overhang = refl; front_half_width = refl; rear_half_width = refl }; start = refl; step = refl; count = refl; elements = refl }

units_differ_lem : (vehicle_with empty_unit).units ≡ (vehicle_with wrong_unit).units → ⊥
unfolding empty_units
units_differ_lem p = let z : ◌≡◌ {A = ℕ} 0 1 = ap (λ (us : List VehicleUnit). (get_or us 3 empty_unit).wheelbase) p in omega arith

bodies_differ_lem : take 1 (vehicle_with empty_unit).units ≡ take 1 (vehicle_with wrong_unit).units → ⊥
unfolding empty_units
bodies_differ_lem p = let z : ◌≡◌ {A = ℕ} 0 1 = ap (λ (us : List VehicleUnit). (get_or us 0 empty_unit).body.front_overhang) p in omega arith

elements_differ_lem : (job_with empty_unit empty_element).elements ≡ (job_with wrong_unit wrong_element).elements → ⊥
unfolding empty_units empty_elements
elements_differ_lem p = let z : ◌≡◌ {A = ℕ} 0 1 = ap (λ (es : List Element). (get_or es 63 empty_element).length) p in omega arith

pub some_jobs_lem : SomeJobs
some_jobs_lem = record {
  one = job_with empty_unit empty_element;
  other = job_with wrong_unit wrong_element;
  same = jobs_same;
  units_differ = units_differ_lem;
  bodies_differ = bodies_differ_lem;
  elements_differ = elements_differ_lem;
  path = path_room;
  reaches = reach_room;
  one_runs = runs_as_worked empty_unit empty_element;
  other_runs = runs_as_worked wrong_unit wrong_element;
}

-- the record at a station of a straight due north: the vector stays
abbrev at : ℕ → VehicleUnit → Walk
at k u = record { vehicle = vehicle_with u; station = k; d = record { x = pos 0; y = pos 50000 } ∷ zero_vector ∷ zero_vector ∷ zero_vector ∷ [] }

-- two stations, due north from the origin to y
abbrev path_to : ℤ → PathRuns
path_to y = path_runs (pos 0 ∷ pos 0 ∷ []) (pos 0 ∷ y ∷ []) (pos 0 ∷ pos 0 ∷ []) (pos 1000000 ∷ pos 1000000 ∷ [])

-- what the runs hold as they are lent, after the placement, and after a step, in which the front wheels cross the second station
abbrev lent_runs : Reaches
lent_runs = reach_runs (pos 0 ∷ pos 0 ∷ []) (pos 0 ∷ pos 0 ∷ []) (0 ∷ 255 ∷ [])

abbrev cleared_runs : Reaches
cleared_runs = reach_runs (pos 2000000000 ∷ pos 2000000000 ∷ []) (negsuc 1999999999 ∷ negsuc 1999999999 ∷ []) (0 ∷ 0 ∷ [])

abbrev crossed_runs : Reaches
crossed_runs = reach_runs (pos 2000000000 ∷ negsuc 11999 ∷ []) (negsuc 1999999999 ∷ pos 12000 ∷ []) (0 ∷ 12 ∷ [])

-- each call by computing, whatever the unused unit and the body are
abbrev StepsSo : ℕ → ℤ → Reaches → Outcome → ℕ → Reaches → Type 0
StepsSo k y before answer m after = (u : VehicleUnit) → StepEnsures (at k u) (call_of 2 (path_to y) before) before (record { answer = answer; walk = at m u }) after

placed_so : (u : VehicleUnit) (w : Walk) → PlaceEnsures (vehicle_with u) w (call_of 2 (path_to (pos 5000)) lent_runs) lent_runs (record { answer = P.placed; walk = at 0 u }) cleared_runs
unfolding empty_units nearest_size nearest_z has_length fault_of units_fault vehicle_fault placed_by lent station_sound path_sound vehicle_sound start_vectors place_refusal at_stations
placed_so u w = place_done (vehicle_with u) w (call_of 2 (path_to (pos 5000)) lent_runs) lent_runs (at 0 u) cleared_runs refl refl refl

made_so : StepsSo 0 (pos 5000) cleared_runs D.made 1 crossed_runs
unfolding empty_units nearest_size nearest_z has_length fault_of units_fault vehicle_fault turned_by too_far lent station_sound path_sound vehicle_sound vector_sound vectors_sound record_sound at_last turn_units draw_step unit_places body_of front_corner rear_corner corner_of point_count all_set point_at rig_points at_stations reach_of crosses crossed_by crossed_from
made_so u = record { stepped = refl; unchanged = λ n. absurd (n refl); runs = refl }

last_so : StepsSo 1 (pos 5000) crossed_runs (D.refused 25) 1 crossed_runs
unfolding empty_units has_length fault_of units_fault vehicle_fault lent station_sound path_sound vehicle_sound vector_sound vectors_sound record_sound at_last draw_step
last_so u = record { stepped = refl; unchanged = λ n. refl; runs = refl }

far_so : StepsSo 0 (pos 50001) lent_runs (D.refused_at 22 1) 0 lent_runs
unfolding empty_units has_length fault_of units_fault vehicle_fault too_far lent station_sound path_sound vehicle_sound vector_sound vectors_sound record_sound at_last turn_units draw_step
far_so u = record { stepped = refl; unchanged = λ n. refl; runs = refl }

-- the second station is complete in the runs as they are lent
abbrev second_place : Place
second_place = record { station = 1; width = pos 0; left = pos 0; right = pos 0 }

widest_so : (u : VehicleUnit) → widest_answer (view (at 0 u)) 2 lent_runs ≡ W.answered second_place
unfolding empty_units has_length fault_of units_fault vehicle_fault vehicle_sound vector_sound vectors_sound record_sound point_count all_set widest_among widest_lent widest_answer
widest_so u = refl

-- such a call of both records
abbrev both : (k : ℕ) (y : ℤ) (before : Reaches) (answer : Outcome) (m : ℕ) (after : Reaches) → StepsSo k y before answer m after → StepsOfBoth (at k empty_unit) (at k wrong_unit) answer
both k y before answer m after h = record {
  same = record { vehicle = jobs_same.vehicle; station = refl; vectors = refl };
  differ = λ p. units_differ_lem (ap (λ (w : Walk). w.vehicle.units) p);
  asked = 2;
  path = path_to y;
  before = before;
  one = at m empty_unit;
  other = at m wrong_unit;
  after = after;
  one_ensured = h empty_unit;
  other_ensured = h wrong_unit;
}

pub some_steps_lem : SomeSteps some_jobs_lem.one.vehicle some_jobs_lem.other.vehicle
unfolding some_jobs_lem
some_steps_lem = record {
  asked = 2;
  path = path_to (pos 5000);
  before = lent_runs;
  one = at 0 empty_unit;
  other = at 0 wrong_unit;
  after = cleared_runs;
  one_placed = placed_so empty_unit;
  other_placed = placed_so wrong_unit;
  widest = second_place;
  one_asked = widest_so empty_unit;
  other_asked = widest_so wrong_unit;
  made = both 0 (pos 5000) cleared_runs D.made 1 crossed_runs made_so;
  at_last = both 1 (pos 5000) crossed_runs (D.refused 25) 1 crossed_runs last_so;
  too_far = both 0 (pos 50001) lent_runs (D.refused_at 22 1) 0 lent_runs far_so;
}
