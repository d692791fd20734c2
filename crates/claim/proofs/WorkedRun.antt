-- The worked job runs to its end on seven runs of fourteen entries, by computing.
use mathlib.Core.Path.{refl}
use mathlib.Core.List.{List}
use lib.ListN.{replicate}
use lib.IntN.{ℤ, pos}
use Rattle.exact.specs.Nearest.{half_to, nearest_size, nearest_z}
use Rattle.plane.specs.Length.{has_length}
use Rattle.job.specs.Allowed.{heading_allowed}
use Rattle.job.specs.Empty.{empty_units, empty_elements}
use Rattle.job.specs.Faults.{fault_of, units_fault, elements_fault, vehicle_fault, judge}
use Rattle.path.specs.Cuts.{full_steps, cuts_from}
use Rattle.path.specs.Stations.{steps_on, stations_from, stations}
use Rattle.path.specs.Laying.{PathRuns, path_runs}
use Rattle.unit.specs.Turn.{turned_by, too_far, placed_by}
use Rattle.unit.specs.Coupling.{hitch_offset, fold_allowed}
use Rattle.walk.specs.Tests.{lent, station_sound, path_sound, vehicle_sound, vector_sound, vectors_sound, record_sound, at_last}
use Rattle.walk.specs.Units.{turn_units}
use Rattle.walk.specs.Rig.{start_vectors, draw_step}
use Rattle.marks.specs.Count.{point_count}
use Rattle.marks.specs.Marks.{all_set}
use Rattle.points.specs.Corners.{body_of, front_corner, rear_corner, corner_of}
use Rattle.points.specs.Ends.{unit_places}
use Rattle.points.specs.Points.{point_at, rig_points}
use Rattle.reaches.specs.Cells.{Reaches, reach_runs, at_stations}
use Rattle.reaches.specs.Crossing.{reach_of, crosses, crossed_by, crossed_from}
use Rattle.reaches.specs.Widest.{widest_among}
use Rattle.run.specs.Ran as R
use Rattle.run.specs.Walking.{walk_on}
use Rattle.run.specs.Run.{run_refusal, job_path, job_course}
use Rattle.claim.specs.WholeRun.{Run, Ensured}
use Rattle.run.specs.Worked.{worked_job, worked_finish}

-- runs of zeros, one entry a station
abbrev zeros : List ℤ
zeros = replicate 14 (pos 0)

abbrev unlaid : PathRuns
unlaid = path_runs zeros zeros zeros zeros

abbrev uncleared : Reaches
uncleared = reach_runs zeros zeros (replicate 14 0)

abbrev pub worked_run : Run
worked_run = record {
  job = worked_job;
  path = unlaid;
  reaches = uncleared;
  answer = R.finished worked_finish;
  path_left = job_path worked_job unlaid;
  reaches_left = (job_course worked_job unlaid uncleared).runs;
}

pub worked_ensured : Ensured worked_run
unfolding half_to nearest_size nearest_z has_length heading_allowed empty_units empty_elements fault_of units_fault elements_fault vehicle_fault judge full_steps cuts_from steps_on stations_from stations placed_by turned_by too_far hitch_offset fold_allowed lent station_sound path_sound vehicle_sound vector_sound vectors_sound record_sound at_last turn_units start_vectors draw_step unit_places body_of front_corner rear_corner corner_of point_count all_set point_at rig_points at_stations reach_of crosses crossed_by crossed_from widest_among walk_on run_refusal
worked_ensured = record { answered = refl; path = refl; reaches = refl }
