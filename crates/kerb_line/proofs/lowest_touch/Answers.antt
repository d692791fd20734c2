-- `kerb_line::lowest_touch` meets its contract: the lowest point by number is the contact.
use Rattle.kerb_line.specs.Kerb.{vertices}
use Rattle.kerb_line.specs.Lent.{runs_of}
use Rattle.kerb_line.specs.Contact.{segments, lowest_touch}
use Rattle.kerb_line.proofs.LowestLaws.{contact}
use Rattle.kerb_line.proofs.lowest_touch.Goals as goal

pub returns : goal.returns
unfolding lowest_touch
returns c = let a = c.args in contact (segments (vertices a.kerb.count (runs_of a.kerb))) a.olds.now a.news.now c.lowest.result c.requires.moves c.lowest.ensures
