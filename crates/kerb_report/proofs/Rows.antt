-- Reports of each kind, computed: a rig of one unit on a straight due north, its points 1,000 to the left and to the right, its front ones at the station that it has reached.
use Prim.Native.Nat.{ℕ}
use mathlib.Core.Path.{◌≡◌, refl}
use mathlib.Core.List.{List, [], ◌∷◌}
use lib.IntN.{ℤ, pos}
use Rattle.exact.specs.Nearest.{half_to, nearest_size, nearest_z}
use Rattle.plane.specs.Length.{has_length}
use Rattle.job.specs.declared.Form.TheVariants.{Short}
use Rattle.job.specs.declared.Vehicle.{Vehicle}
use Rattle.job.specs.Empty.{empty_body, empty_unit}
use Rattle.job.specs.Faults.{fault_of, units_fault, vehicle_fault}
use Rattle.path.specs.Laying.{PathRuns, path_runs}
use Rattle.unit.specs.Turn.{turned_by, too_far}
use Rattle.unit.specs.Coupling.{hitch_offset, fold_allowed}
use Rattle.walk.specs.Drawn.{Drawn}
use Rattle.walk.specs.Tests.{lent, station_sound, path_sound, vehicle_sound, vector_sound, vectors_sound, record_sound, at_last}
use Rattle.walk.specs.Units.{turn_units}
use Rattle.walk.specs.Rig.{zero_vector, draw_step}
use Rattle.marks.specs.Count.{point_count}
use Rattle.points.specs.Corners.{body_of, front_corner, rear_corner, corner_of}
use Rattle.points.specs.Ends.{unit_places}
use Rattle.points.specs.Points.{point_at, rig_points}
use Rattle.touching.specs.Touch.{ranges_meet, overlap, touches}
use Rattle.kerb_line.specs.Kerb.{kerb_runs, vertices_from, kerb_lent, kerb_sound}
use Rattle.kerb_line.specs.Contact.{segments_from, segments, touches_one, lowest_from, lowest_touch}
use Rattle.kerb_report.specs.Answers.{KerbReport}
use Rattle.kerb_report.specs.Answers as R
use Rattle.kerb_report.specs.Report.{look_ahead, report_of}

abbrev vehicle : Vehicle
vehicle = record {
  form = Short;
  count = 1;
  units = record { wheelbase = 5000; hitch = pos 0; fold = pos 0; body = empty_body } ∷ empty_unit ∷ empty_unit ∷ empty_unit ∷ [];
  overhang = 0;
  front_half_width = 1000;
  rear_half_width = 1000;
}

-- the record at a station
abbrev at : ℕ → Drawn
at k = record { vehicle = vehicle; station = k; vectors = record { x = pos 0; y = pos 5000 } ∷ zero_vector ∷ zero_vector ∷ zero_vector ∷ [] }

-- three stations, the last one at y
abbrev path_to : ℕ → PathRuns
path_to y = path_runs (pos 0 ∷ pos 0 ∷ pos 0 ∷ []) (pos 0 ∷ pos 5000 ∷ pos y ∷ []) (pos 0 ∷ pos 0 ∷ pos 0 ∷ []) (pos 1000000 ∷ pos 1000000 ∷ pos 1000000 ∷ [])

-- from that record along three stations, by a kerb of these vertices
abbrev row : ℕ → ℕ → ℕ → List ℤ → List ℤ → KerbReport
row k y n xs ys = report_of (at k) 3 (path_to y) n (kerb_runs xs ys)

record Rows : Type 0 where
  -- a line that the right front corner crosses in step 2, of which it is point 1
  crossed : row 0 10000 2 (pos 500 ∷ pos 1500 ∷ []) (pos 7000 ∷ pos 7000 ∷ []) ≡ R.touch 2 1
  -- a single vertex where it comes to rest, at the end of step 1
  ended : row 0 10000 1 (pos 1000 ∷ []) (pos 5000 ∷ []) ≡ R.touch 1 1
  -- a tick past where it comes to rest at last
  missed : row 0 10000 1 (pos 1000 ∷ []) (pos 10001 ∷ []) ≡ R.nothing
  -- none, as at the last station
  last : row 2 10000 1 (pos 1000 ∷ []) (pos 10000 ∷ []) ≡ R.nothing
  -- a second step of more than the wheelbase is refused, and not looked at
  stopped : row 0 10001 1 (pos 1000 ∷ []) (pos 7000 ∷ []) ≡ R.stopped 22 1 2
  -- but a touch before it is
  first : row 0 10001 1 (pos 1000 ∷ []) (pos 5000 ∷ []) ≡ R.touch 1 1
  -- no vertex, one too far off, and a station that the path does not have
  none : row 0 10000 0 (pos 1000 ∷ []) (pos 5000 ∷ []) ≡ R.refused 21
  far : row 0 10000 1 (pos 150000001 ∷ []) (pos 5000 ∷ []) ≡ R.refused 26
  beyond : row 3 10000 1 (pos 1000 ∷ []) (pos 5000 ∷ []) ≡ R.refused 27

rows : Rows
unfolding report_of kerb_lent kerb_sound path_sound station_sound has_length record_sound vehicle_sound vehicle_fault units_fault fault_of vector_sound vectors_sound look_ahead draw_step lent at_last turn_units turned_by too_far hitch_offset fold_allowed half_to nearest_size nearest_z vertices_from point_count body_of front_corner rear_corner corner_of unit_places point_at rig_points lowest_touch lowest_from segments segments_from touches_one touches overlap ranges_meet
rows = record { crossed = refl; ended = refl; missed = refl; last = refl; stopped = refl; first = refl; none = refl; far = refl; beyond = refl }
