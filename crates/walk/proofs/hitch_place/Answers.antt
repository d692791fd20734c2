-- `walk::hitch_place` meets its contract.
use Rattle.walk.proofs.HitchLaws.{hitch_place_lem}
use Rattle.walk.proofs.hitch_place.Goals as goal

pub returns : goal.returns
returns c = hitch_place_lem
