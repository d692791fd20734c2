-- The worked rows: those that a crate has proved of its own definitions are taken from there, the others hold by computation.
use mathlib.Core.Path.{refl}
use Rattle.exact.specs.Nearest.{half_to, nearest_size, nearest_z}
use Rattle.plane.specs.Length.{has_length}
use Rattle.number.proofs.Rows.{fifty_thousand, not_shortest, minus_one}
use Rattle.job.specs.Faults.{fault_of, units_fault, vehicle_fault}
use Rattle.heading.proofs.Rows.{right_row, left_row}
use Rattle.unit.specs.Turn.{turned_by, too_far}
use Rattle.unit.specs.Coupling.{hitch_offset, fold_allowed}
use Rattle.unit.proofs.Rows.{rows}
use Rattle.walk.specs.Tests.{lent, station_sound, path_sound, vehicle_sound, vector_sound, vectors_sound, record_sound, at_last}
use Rattle.walk.specs.Units.{turn_units}
use Rattle.walk.specs.Rig.{draw_step}
use Rattle.worked.specs.Worked.{WorkedRows}

pub worked_rows_lem : WorkedRows
unfolding half_to nearest_size nearest_z has_length fault_of units_fault vehicle_fault turned_by too_far hitch_offset fold_allowed lent station_sound path_sound vehicle_sound vector_sound vectors_sound record_sound at_last turn_units draw_step
worked_rows_lem = record {
  eleven = refl;
  hold = (refl, (refl, (fifty_thousand, (not_shortest, (minus_one, (right_row, (left_row, (rows.turned, (rows.straight, (refl, ((record { ahead = refl; behind = refl; answered = refl }, record { ahead = refl; behind = refl; answered = refl }), tt)))))))))));
}
