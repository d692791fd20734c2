-- `marks::all_set` meets its contract.
use borrow.Author.Rules.{rules}
use Rattle.marks.proofs.AllSet.{by_ones}
use Rattle.marks.proofs.all_set.Goals as goal

pub returns : goal.returns
returns c = rw c.trailing_ones.ensures (by_ones c.args.count c.args.mark c.requires.places (search rules))
