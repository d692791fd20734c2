-- `trial_tools::places::is_on_map` meets its contract.
use mathlib.Core.Path.{sym, ◌∙◌}
use Rattle.walk.proofs.PathTests.{sound_station}
use Rattle.trial_tools.proofs.places.is_on_map.Goals as goal

pub returns : goal.returns
returns c = λ e. let s = sound_station _ (sym c.station_sound.ensures ∙ e) in record { x = s.x; y = s.y }
