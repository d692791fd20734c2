-- `kerb_told::touches::worked_entries` meets its contract, by computing.
use mathlib.Core.Path.{refl}
use Rattle.kerb_told.proofs.touches.worked_entries.Goals as goal

pub returns : goal.returns
returns c = record { touch = refl; none = refl; stopped = refl; refused = refl; vertices = refl; unread = refl; no_room = refl }
