-- The rows, in the order of the list: those that a crate has proved of its own definitions are taken from there, the others hold by computation.
use mathlib.Core.Path.{refl}
use Rattle.exact.specs.Nearest.{half_to, nearest_size, nearest_z}
use Rattle.plane.specs.Length.{has_length}
use Rattle.number.specs.Read.{many}
use Rattle.number.specs.Number.{groups, read_number}
use Rattle.number.specs.Field.{field, signed_number, signed_field}
use Rattle.number.proofs.Rows.{sixth_group, cut_short, too_large_lem}
use Rattle.job.specs.Allowed.{heading_allowed}
use Rattle.job.specs.Empty.{empty_units, empty_elements}
use Rattle.job.specs.Faults.{fault_of, units_fault, elements_fault, vehicle_fault, judge}
use Rattle.job_reader.specs.Record.{read_body, read_unit, read_units, read_widths, read_vehicle, read_start, read_element, read_elements, read_path, read_record, read_job}
use Rattle.path.proofs.Rows.{remainder_last, no_remainder}
use Rattle.unit.specs.Turn.{placed_by, turned_by, too_far}
use Rattle.unit.specs.Coupling.{hitch_offset, fold_allowed}
use Rattle.walk.specs.Tests.{lent, station_sound, path_sound, vehicle_sound, vector_sound, vectors_sound, record_sound, at_last}
use Rattle.walk.specs.Units.{turn_units}
use Rattle.walk.specs.Rig.{start_vectors, draw_step}
use Rattle.marks.specs.Count.{point_count}
use Rattle.marks.specs.Marks.{all_set}
use Rattle.points.specs.Corners.{body_of, front_corner, rear_corner, corner_of}
use Rattle.points.specs.Ends.{unit_places}
use Rattle.points.specs.Points.{point_at, rig_points}
use Rattle.reaches.specs.Cells.{at_stations}
use Rattle.reaches.specs.Crossing.{reach_of, crosses, crossed_by, crossed_from}
use Rattle.stations.specs.Placing.{place_refusal}
use Rattle.conventions.specs.Conventions.{Conventions}

infixr 4 ◌and◌
◌and◌ : {A B : Type 0} → A → B → A × B
a and b = (a, b)

pub convention_rows_lem : Conventions
unfolding half_to nearest_size nearest_z has_length many groups read_number field signed_number signed_field heading_allowed empty_units empty_elements fault_of units_fault elements_fault vehicle_fault judge read_body read_unit read_units read_widths read_vehicle read_start read_element read_elements read_path read_record read_job placed_by turned_by too_far hitch_offset fold_allowed lent station_sound path_sound vehicle_sound vector_sound vectors_sound record_sound at_last turn_units start_vectors draw_step unit_places body_of front_corner rear_corner corner_of point_count all_set point_at rig_points at_stations reach_of crosses crossed_by crossed_from place_refusal
convention_rows_lem = record {
  count = refl;
  hold =
      -- numbers
      sixth_group and cut_short and refl and too_large_lem
      -- cutting
      and remainder_last and no_remainder
      -- headings
      and (refl, refl) and (refl, refl) and (refl, refl) and (refl, refl)
      -- a hitch on the last unit
      and refl and refl and refl and refl and refl
      -- the first number
      and refl and refl and refl and refl and refl
      -- a body's fields
      and refl and refl and refl and refl
      -- the old overhang of a long job
      and refl and refl and refl
      -- 4 and 5, unit by unit
      and refl and refl and refl and refl and refl and refl and refl and refl and refl
      -- an arc's radius
      and refl and refl and refl
      -- over 2,000 steps
      and refl and refl and refl
      -- placed along the heading
      and (refl, refl)
      -- hitches
      and refl and refl and refl and refl and refl and refl
      -- fold limits
      and refl and refl and refl and refl and refl and refl
      -- 22 before 23 within a unit
      and refl and refl
      -- unit by unit
      and refl and refl
      -- the table of points
      and refl and refl
      -- reaches
      and refl and refl and refl and refl
      -- crossing
      and refl and refl
      -- crossings entered
      and refl
      -- cleared
      and refl
      -- a step call, 21 to 25
      and refl and refl and refl and refl and refl
      -- a placement, 21 to 27
      and refl and refl and refl and (refl, refl)
      -- a station beyond the last
      and refl and refl
      and tt;
}
