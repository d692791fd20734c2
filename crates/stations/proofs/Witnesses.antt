-- What the functions below the entries ask can be met, by the walk whose units stand in line. Assumes nothing.
use mathlib.Core.Path.{◌≡◌, refl}
use mathlib.Core.Bool.{true}
use mathlib.Core.List.{[], ◌∷◌}
use native.Mathlib.Omega.{arith}
use lib.IntN.{pos}
use Rattle.walk.specs.Drawn.{view, Call, station_at}
use Rattle.walk.specs.Tests.{lent}
use Rattle.walk.proofs.StepWitnesses.{two_stations, in_line, path_passes, record_passes, one_more_station}
use Rattle.reaches.specs.Cells.{reach_runs}
use Rattle.stations.specs.Placing.{call_of}
use Rattle.stations.specs.Inner.{Enterable, Open}
use Rattle.stations.proofs.RigLaws.{sound_keeping}
use Rattle.stations.proofs.Entering.{rig_at}

-- runs with no entry to spare
abbrev call : Call
call = call_of 2 two_stations (reach_runs (pos 0 ∷ pos 0 ∷ []) (pos 0 ∷ pos 0 ∷ []) (255 ∷ 0 ∷ []))

lent_passes : lent call ≡ true
unfolding lent
lent_passes = refl

open_met : Open (view in_line) call
open_met = record { lent = lent_passes; path = path_passes; rig = record_passes; not_last = one_more_station }

-- a rig that stays where it is
enter_met : Enterable in_line in_line (station_at two_stations 0).position (station_at two_stations 0).position call
enter_met =
    let k = sound_keeping 2 (view in_line) record_passes in
    let r = rig_at in_line two_stations 2 0 refl k path_passes (omega arith) in
    record { lent = lent_passes; path = path_passes; vehicle = refl; before = r; after = r }
