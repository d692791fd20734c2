-- `reaches::widest_place`: the claim.
use Rattle.reaches.proofs.WidestLaws.{widest_place_lem}
use Rattle.reaches.proofs.widest_place.Goals as goal

pub returns : goal.returns
returns c = widest_place_lem
