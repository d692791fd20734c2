-- What the functions below the entry ask can be met, by the walk whose units stand in line. Assumes nothing.
use mathlib.Core.Path.{◌≡◌, refl}
use mathlib.Core.Bool.{true}
use mathlib.Core.List.{[], ◌∷◌}
use lib.IntN.{pos}
use Rattle.walk.specs.Drawn.{view, Call}
use Rattle.walk.specs.Tests.{lent}
use Rattle.walk.proofs.RecordTests.{sound_record}
use Rattle.walk.proofs.StepWitnesses.{two_stations, in_line, path_passes, record_passes}
use Rattle.reaches.specs.Cells.{reach_runs}
use Rattle.stations.specs.Placing.{call_of}
use Rattle.bogie.specs.declared.Rail.{Rail}
use Rattle.bogie.specs.Settings.{settings_allowed, rail_allowed}
use Rattle.bogie.specs.Walks.{LastUnit, Walkable}
use Rattle.bogie.proofs.WalksLaws.{last_unit}

-- runs with no entry to spare
abbrev call : Call
call = call_of 2 two_stations (reach_runs (pos 0 ∷ pos 0 ∷ []) (pos 0 ∷ pos 0 ∷ []) (255 ∷ 0 ∷ []))

lent_passes : lent call ≡ true
unfolding lent
lent_passes = refl

-- from end to end of the range
abbrev rail : Rail
rail = record { lowest = 5000; pitch = 195000; number = 2 }

rail_passes : rail_allowed rail ≡ true
unfolding rail_allowed settings_allowed
rail_passes = refl

walkable_met : Walkable in_line.vehicle rail call
walkable_met = record { lent = lent_passes; path = path_passes; vehicle = (sound_record 2 (view in_line) record_passes).vehicle; rail = rail_passes }

last_met : LastUnit in_line.vehicle
last_met = last_unit in_line.vehicle walkable_met.vehicle
