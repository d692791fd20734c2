-- The worked reports, by computing.
use mathlib.Core.Path.{refl}
use Rattle.exact.specs.Nearest.{half_to, nearest_size, nearest_z}
use Rattle.plane.specs.Length.{has_length}
use Rattle.job.specs.Faults.{fault_of, units_fault, vehicle_fault}
use Rattle.unit.specs.Turn.{turned_by, too_far}
use Rattle.unit.specs.Coupling.{hitch_offset, fold_allowed}
use Rattle.walk.specs.Tests.{lent, station_sound, path_sound, vehicle_sound, vector_sound, vectors_sound, record_sound, at_last}
use Rattle.walk.specs.Units.{turn_units}
use Rattle.walk.specs.Rig.{draw_step}
use Rattle.marks.specs.Count.{point_count}
use Rattle.points.specs.Corners.{body_of, front_corner, rear_corner, corner_of}
use Rattle.points.specs.Ends.{unit_places}
use Rattle.points.specs.Points.{point_at, rig_points}
use Rattle.touching.specs.Touch.{ranges_meet, overlap, touches}
use Rattle.kerb_line.specs.Kerb.{vertices_from, kerb_lent, kerb_sound}
use Rattle.kerb_line.specs.Contact.{segments_from, segments, touches_one, lowest_from, lowest_touch}
use Rattle.kerb_report.specs.Report.{look_ahead, report_of}
use Rattle.kerb_claim.specs.Worked.{WorkedReports}

pub worked : WorkedReports
unfolding report_of kerb_lent kerb_sound path_sound station_sound has_length record_sound vehicle_sound vehicle_fault units_fault fault_of vector_sound vectors_sound look_ahead draw_step lent at_last turn_units turned_by too_far hitch_offset fold_allowed half_to nearest_size nearest_z vertices_from point_count body_of front_corner rear_corner corner_of unit_places point_at rig_points lowest_touch lowest_from segments segments_from touches_one touches overlap ranges_meet
worked = record { crossed = refl; ended = refl; missed = refl; last = refl; stopped = refl; first = refl; none = refl; far = refl; beyond = refl; none_before_path = refl; path_before_beyond = refl; far_before_beyond = refl }
