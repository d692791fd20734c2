-- What the functions below the entry ask can be met, by the walk whose units stand in line and a kerb of one vertex. Assumes nothing.
use mathlib.Core.Path.{◌≡◌, refl}
use mathlib.Core.Bool.{true}
use mathlib.Core.List.{[], ◌∷◌}
use native.Mathlib.Omega.{arith}
use lib.IntN.{pos}
use Rattle.walk.specs.Drawn.{view}
use Rattle.walk.proofs.StepWitnesses.{two_stations, in_line, path_passes, record_passes}
use Rattle.marks.specs.Count.{point_count}
use Rattle.kerb_line.specs.Kerb.{KerbRuns, kerb_runs, kerb_lent, kerb_sound}
use Rattle.kerb_report.specs.Requires.{Ahead, Steppable, OnPath}
use Rattle.kerb_report.proofs.LookLaws.{Here, on_path, steppable}

-- as far off as it may lie
abbrev corner : KerbRuns
corner = kerb_runs (pos 150000000 ∷ []) (pos 150000000 ∷ [])

kerb_passes : kerb_lent 1 corner ≡ true
unfolding kerb_lent
kerb_passes = refl

vertex_passes : kerb_sound 1 corner ≡ true
unfolding kerb_sound
vertex_passes = refl

ahead_met : Ahead (view in_line) 2 two_stations 1 corner
ahead_met = record { path = refl; kerb = kerb_passes; stations = path_passes; vertices = vertex_passes; rig = record_passes }

here_met : Here 2 two_stations 1 corner in_line (point_count in_line.vehicle)
here_met = record { ahead = ahead_met; places = refl; count = refl }

on_path_met : OnPath in_line two_stations
on_path_met = on_path 2 two_stations 1 corner in_line _ here_met

steppable_met : Steppable in_line two_stations
steppable_met = steppable 2 two_stations 1 corner in_line _ here_met (omega arith)
