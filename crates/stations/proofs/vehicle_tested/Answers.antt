-- `stations::vehicle_tested` meets its contract.
use mathlib.Core.Path.{sym, ◌∙◌}
use Rattle.stations.proofs.CallLaws.{vehicle_ready, vehicle_unsound}
use Rattle.stations.proofs.vehicle_tested.Goals as goal

pub returns-then-vehicle_sound : goal.returns-then-vehicle_sound
returns-then-vehicle_sound c = vehicle_ready c.args.v (sym c.vehicle_sound.ensures ∙ c.if-vehicle_sound.true)

pub returns : goal.returns
returns c = vehicle_unsound c.args.v (sym c.vehicle_sound.ensures ∙ c.if-vehicle_sound.false)
