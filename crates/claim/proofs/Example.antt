-- A rig of one unit on a straight due north: three steps made, and between them calls refused by every number, over runs and paths of their own.
use Prim.Native.Nat.{ℕ}
use mathlib.Core.Path.{refl}
use mathlib.Core.List.{List, [], ◌∷◌}
use lib.IntN.{ℤ, pos, negsuc}
use Rattle.exact.specs.Nearest.{half_to, nearest_size, nearest_z}
use Rattle.plane.specs.Length.{has_length}
use Rattle.job.specs.declared.Form.TheVariants.{Short}
use Rattle.job.specs.declared.Vehicle.{Vehicle}
use Rattle.job.specs.Empty.{empty_body, empty_unit}
use Rattle.job.specs.Faults.{fault_of, units_fault, vehicle_fault}
use Rattle.path.specs.Laying.{PathRuns, path_runs}
use Rattle.unit.specs.Turn.{turned_by, too_far, placed_by}
use Rattle.unit.specs.Coupling.{hitch_offset, fold_allowed}
use Rattle.walk.specs.declared.Walk.{Walk}
use Rattle.walk.specs.Drawn.{Outcome, made, refused, refused_at}
use Rattle.walk.specs.Tests.{lent, station_sound, path_sound, vehicle_sound, vector_sound, vectors_sound, record_sound, at_last}
use Rattle.walk.specs.Units.{turn_units}
use Rattle.walk.specs.Rig.{zero_vector, start_vectors, draw_step}
use Rattle.marks.specs.Count.{point_count}
use Rattle.marks.specs.Marks.{all_set}
use Rattle.points.specs.Corners.{body_of, front_corner, rear_corner, corner_of}
use Rattle.points.specs.Ends.{unit_places}
use Rattle.points.specs.Points.{point_at, rig_points}
use Rattle.reaches.specs.Cells.{Reaches, reach_runs, at_stations}
use Rattle.reaches.specs.Crossing.{reach_of, crosses, crossed_by, crossed_from}
use Rattle.stations.specs.Placing as P
use Rattle.stations.specs.Placing.{call_of, place_refusal, PlaceEnsures}
use Rattle.stations.proofs.StepLaws.{refused_not_made, unit_not_made}
use Rattle.claim.specs.DemandThree.{Turn, Chain}
use Rattle.claim.specs.StationHistory.{History, MadeOver, Lawful}

abbrev pub vehicle : Vehicle
vehicle = record {
  form = Short;
  count = 1;
  units = record { wheelbase = 5000; hitch = pos 0; fold = pos 0; body = empty_body } ∷ empty_unit ∷ empty_unit ∷ empty_unit ∷ [];
  overhang = 0;
  front_half_width = 1000;
  rear_half_width = 1000;
}

-- the record at a station: on a straight the vector stays
abbrev at : ℕ → Walk
at k = record { vehicle = vehicle; station = k; d = record { x = pos 0; y = pos 5000 } ∷ zero_vector ∷ zero_vector ∷ zero_vector ∷ [] }

-- four stations a wheelbase apart, the last one at y
abbrev path_to : ℤ → PathRuns
path_to y = path_runs
    (pos 0 ∷ pos 0 ∷ pos 0 ∷ pos 0 ∷ [])
    (pos 0 ∷ pos 5000 ∷ pos 10000 ∷ y ∷ [])
    (pos 0 ∷ pos 0 ∷ pos 0 ∷ pos 0 ∷ [])
    (pos 1000000 ∷ pos 1000000 ∷ pos 1000000 ∷ pos 1000000 ∷ [])

abbrev pub path : PathRuns
path = path_to (pos 15000)

-- a path of one station, too far east
abbrev too_far_east : PathRuns
too_far_east = path_runs (pos 150000001 ∷ []) (pos 0 ∷ []) (pos 0 ∷ []) (pos 1000000 ∷ [])

-- what the runs hold after 0, 1, 2 and 3 steps: a station is first crossed by the four points in front, a step later by the rear wheels and corners
abbrev pub none : Reaches
none = reach_runs (pos 2000000000 ∷ pos 2000000000 ∷ pos 2000000000 ∷ pos 2000000000 ∷ []) (negsuc 1999999999 ∷ negsuc 1999999999 ∷ negsuc 1999999999 ∷ negsuc 1999999999 ∷ []) (0 ∷ 0 ∷ 0 ∷ 0 ∷ [])

abbrev one : Reaches
one = reach_runs (negsuc 999 ∷ negsuc 999 ∷ pos 2000000000 ∷ pos 2000000000 ∷ []) (pos 1000 ∷ pos 1000 ∷ negsuc 1999999999 ∷ negsuc 1999999999 ∷ []) (240 ∷ 15 ∷ 0 ∷ 0 ∷ [])

abbrev two : Reaches
two = reach_runs (negsuc 999 ∷ negsuc 999 ∷ negsuc 999 ∷ pos 2000000000 ∷ []) (pos 1000 ∷ pos 1000 ∷ pos 1000 ∷ negsuc 1999999999 ∷ []) (240 ∷ 255 ∷ 15 ∷ 0 ∷ [])

abbrev pub three : Reaches
three = reach_runs (negsuc 999 ∷ negsuc 999 ∷ negsuc 999 ∷ negsuc 999 ∷ []) (pos 1000 ∷ pos 1000 ∷ pos 1000 ∷ pos 1000 ∷ []) (240 ∷ 255 ∷ 255 ∷ 15 ∷ [])

-- runs of zeros, no runs, and runs of one entry
abbrev pub zeros : Reaches
zeros = reach_runs (pos 0 ∷ pos 0 ∷ pos 0 ∷ pos 0 ∷ []) (pos 0 ∷ pos 0 ∷ pos 0 ∷ pos 0 ∷ []) (0 ∷ 0 ∷ 0 ∷ 0 ∷ [])

abbrev no_runs : Reaches
no_runs = reach_runs [] [] []

abbrev single : Reaches
single = reach_runs (pos 7 ∷ []) (pos 8 ∷ []) (4294967295 ∷ [])

-- a call over some stations of a path, its answer, the station of the record that it leaves and the runs
abbrev turn : ℕ → PathRuns → Reaches → Outcome → ℕ → Reaches → Turn
turn asked p before answer k after = record { call = call_of asked p before; before = before; result = record { answer = answer; walk = at k }; after = after }

abbrev turns : List Turn
turns =
    turn 4 path none made 1 one
    ∷ turn 0 (path_runs [] [] [] []) no_runs (refused 21) 1 no_runs
    ∷ turn 1 too_far_east single (refused 26) 1 single
    ∷ turn 4 path one made 2 two
    ∷ turn 2 path two (refused 27) 2 two
    ∷ turn 4 (path_to (pos 15001)) zeros (refused_at 22 1) 2 zeros
    ∷ turn 4 path two made 3 three
    ∷ turn 4 path three (refused 25) 3 three
    ∷ []

-- the placement, and calls after it
abbrev pub placed_then : List Turn → History
placed_then ts = record {
  vehicle = vehicle;
  walk = at 0;
  asked = 4;
  path = path;
  before = zeros;
  placing = record { answer = P.placed; walk = at 0 };
  after = none;
  turns = ts;
}

abbrev pub example : History
example = placed_then turns

-- none at all
abbrev pub no_calls : History
no_calls = placed_then []

-- each call by computing
placed : PlaceEnsures vehicle (at 0) (call_of 4 path zeros) zeros (record { answer = P.placed; walk = at 0 }) none
unfolding half_to nearest_size nearest_z has_length fault_of units_fault vehicle_fault placed_by lent station_sound path_sound vehicle_sound start_vectors place_refusal at_stations
placed = record { answered = refl; placed = refl; unchanged = λ n. absurd (n refl); runs = refl }

chain : Chain (at 0) turns
unfolding Chain half_to nearest_size nearest_z has_length fault_of units_fault vehicle_fault turned_by too_far hitch_offset fold_allowed lent station_sound path_sound vehicle_sound vector_sound vectors_sound record_sound at_last turn_units draw_step unit_places body_of front_corner rear_corner corner_of point_count all_set point_at rig_points at_stations reach_of crosses crossed_by crossed_from
chain = (
  record { stepped = refl; unchanged = λ n. absurd (n refl); runs = refl },
  (
    record { stepped = refl; unchanged = λ n. refl; runs = refl },
    (
      record { stepped = refl; unchanged = λ n. refl; runs = refl },
      (
        record { stepped = refl; unchanged = λ n. absurd (n refl); runs = refl },
        (
          record { stepped = refl; unchanged = λ n. refl; runs = refl },
          (
            record { stepped = refl; unchanged = λ n. refl; runs = refl },
            (
              record { stepped = refl; unchanged = λ n. absurd (n refl); runs = refl },
              (
                record { stepped = refl; unchanged = λ n. refl; runs = refl },
                tt,
              ),
            ),
          ),
        ),
      ),
    ),
  ),
)

-- those made are over the placement's path and runs; of a refused one nothing is asked
over : MadeOver 4 path none turns
unfolding MadeOver
over = (
  λ e. (refl, refl),
  (
    λ e. absurd (refused_not_made 21 e),
    (
      λ e. absurd (refused_not_made 26 e),
      (
        λ e. (refl, refl),
        (
          λ e. absurd (refused_not_made 27 e),
          (
            λ e. absurd (unit_not_made 22 1 e),
            (
              λ e. (refl, refl),
              (
                λ e. absurd (refused_not_made 25 e),
                tt,
              ),
            ),
          ),
        ),
      ),
    ),
  ),
)

pub example_lawful : Lawful example
example_lawful = record { placement = placed; accepted = refl; chain = chain; over = over }

pub no_calls_lawful : Lawful no_calls
unfolding Chain MadeOver
no_calls_lawful = record { placement = placed; accepted = refl; chain = tt; over = tt }
