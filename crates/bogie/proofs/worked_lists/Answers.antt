-- `bogie::worked_lists` meets its contract, by computing.
use mathlib.Core.Path.{refl}
use Rattle.exact.specs.Nearest.{half_to, nearest_size, nearest_z}
use Rattle.plane.specs.Length.{has_length}
use Rattle.job.specs.Allowed.{heading_allowed}
use Rattle.job.specs.Empty.{empty_units, empty_elements}
use Rattle.job.specs.Faults.{fault_of, units_fault, elements_fault, vehicle_fault, judge}
use Rattle.path.specs.Cuts.{full_steps, cuts_from}
use Rattle.path.specs.Stations.{steps_on, stations_from, stations}
use Rattle.unit.specs.Turn.{turned_by, too_far, placed_by}
use Rattle.unit.specs.Coupling.{hitch_offset, fold_allowed}
use Rattle.walk.specs.Tests.{lent, station_sound, path_sound, vehicle_sound, vector_sound, vectors_sound, record_sound, at_last}
use Rattle.walk.specs.Units.{turn_units}
use Rattle.walk.specs.Rig.{start_vectors, draw_step}
use Rattle.marks.specs.Count.{point_count}
use Rattle.marks.specs.Marks.{all_set}
use Rattle.points.specs.Corners.{body_of, front_corner, rear_corner, corner_of}
use Rattle.points.specs.Ends.{unit_places}
use Rattle.points.specs.Points.{point_at, rig_points}
use Rattle.reaches.specs.Cells.{at_stations}
use Rattle.reaches.specs.Crossing.{reach_of, crosses, crossed_by, crossed_from}
use Rattle.reaches.specs.Widest.{widest_among}
use Rattle.run.specs.Walking.{walk_on}
use Rattle.run.specs.Run.{run_refusal}
use Rattle.bogie.specs.Settings.{settings_allowed, rail_allowed}
use Rattle.ranking.specs.Ranking.{insert, ranked}
use Rattle.bogie.specs.Fitting.{fitting}
use Rattle.bogie.specs.List.{list_refusal}
use Rattle.bogie.specs.Worked.{WorkedLists}
use Rattle.bogie.proofs.worked_lists.Goals as goal

worked : WorkedLists
unfolding half_to nearest_size nearest_z has_length heading_allowed empty_units empty_elements fault_of units_fault elements_fault vehicle_fault judge full_steps cuts_from steps_on stations_from stations placed_by turned_by too_far hitch_offset fold_allowed lent station_sound path_sound vehicle_sound vector_sound vectors_sound record_sound at_last turn_units start_vectors draw_step unit_places body_of front_corner rear_corner corner_of point_count all_set point_at rig_points at_stations reach_of crosses crossed_by crossed_from widest_among walk_on run_refusal settings_allowed rail_allowed fitting insert ranked list_refusal
worked = record { replaced = refl; replaced_long = refl; three = λ a p r h. h.answered; two = λ a p r h. h.answered; none = λ a p r h. h.answered; outside = λ a p r h. h.answered }

pub returns : goal.returns
returns c = worked
