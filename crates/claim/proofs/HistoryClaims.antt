-- The claims about the history of a walk, with examples of what they speak of.
use mathlib.Core.Path.{refl, sym, ap₂}
use native.Mathlib.Omega.{arith}
use lib.IntN.{ℤ, ◌-ℤ◌}
use Rattle.exact.specs.Nearest.{half_to, nearest_size, nearest_z}
use Rattle.plane.specs.Length.{has_length}
use Rattle.job.specs.Faults.{fault_of, units_fault, vehicle_fault}
use Rattle.walk.specs.Tests.{vehicle_sound, vector_sound, vectors_sound, record_sound}
use Rattle.walk.specs.Drawn.{station_at}
use Rattle.marks.specs.Count.{point_count}
use Rattle.marks.specs.Marks.{all_set}
use Rattle.reaches.specs.Cells.{cell_at}
use Rattle.reaches.specs.Widest.{widest_among, widest_lent, widest_answer}
use Rattle.claim.specs.DemandThree.{last_record}
use Rattle.claim.specs.StationHistory.{runs_left, Kept, moves_of, runs_of, StationHistory}
use Rattle.claim.specs.WidestHistory.{WidestHistory}
use Rattle.claim.proofs.HistoryKept.{kept, left_as_was}
use Rattle.claim.proofs.WidestKept.{asked_told}
use Rattle.claim.proofs.RunWidest.{ran_told}
use Rattle.claim.proofs.EnteredKept.{entered}
use Rattle.claim.proofs.Example.{example, example_lawful, no_calls, no_calls_lawful}
use Rattle.claim.proofs.WorkedRun.{worked_run, worked_ensured}

pub station_history_lem : StationHistory
station_history_lem = record { kept = kept; entered = entered; refused_leaves = left_as_was; some_calls = (example, example_lawful, refl) }

pub widest_history_lem : WidestHistory
unfolding half_to nearest_size nearest_z has_length fault_of units_fault vehicle_fault vehicle_sound vector_sound vectors_sound record_sound point_count all_set last_record runs_left widest_among widest_lent widest_answer
widest_history_lem =
    let k : Kept (point_count example.vehicle) (station_at example.path 2) (moves_of example) (cell_at 2 (runs_of example)) = kept example example_lawful 2 (omega arith) in
    record {
      asked = asked_told;
      ran = ran_told;
      some_tie = (example, example_lawful, refl, k.whole refl, sym (ap₂ (λ (x y : ℤ). x -ℤ y) k.right k.left));
      some_none = (no_calls, no_calls_lawful, refl);
      some_run = (worked_run, worked_ensured, refl, refl);
    }
