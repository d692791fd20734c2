-- What the functions below the entry ask can be met, by the walk whose units stand in line. Assumes nothing.
use mathlib.Core.Path.{◌≡◌, refl}
use mathlib.Core.Bool.{true}
use mathlib.Core.List.{[], ◌∷◌}
use native.Mathlib.Omega.{arith}
use lib.IntN.{pos}
use Rattle.walk.specs.Drawn.{view, Call}
use Rattle.walk.specs.Tests.{lent}
use Rattle.walk.proofs.RecordTests.{sound_record}
use Rattle.walk.proofs.StepWitnesses.{two_stations, in_line, path_passes, record_passes}
use Rattle.reaches.specs.Cells.{reach_runs}
use Rattle.stations.specs.Placing.{call_of}
use Rattle.run.specs.Walking.{Going}
use Rattle.run.specs.Run.{Runnable, Tellable}

-- runs with no entry to spare
abbrev call : Call
call = call_of 2 two_stations (reach_runs (pos 0 ∷ pos 0 ∷ []) (pos 0 ∷ pos 0 ∷ []) (255 ∷ 0 ∷ []))

lent_passes : lent call ≡ true
unfolding lent
lent_passes = refl

going_met : Going (view in_line) call
going_met = record { lent = lent_passes; path = path_passes; rig = record_passes }

runnable_met : Runnable in_line.vehicle call
runnable_met = record { lent = lent_passes; path = path_passes; vehicle = (sound_record 2 (view in_line) record_passes).vehicle }

-- at the last of the two stations
tellable_met : Tellable in_line.vehicle 1 call
tellable_met = record { units = omega arith; lent = lent_passes; station = omega arith }
