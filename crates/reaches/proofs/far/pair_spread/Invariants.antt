-- `reaches::far::pair_spread` meets its contract: no point of a pair so far lies farther off.
use lib.ListN.{length}
use Rattle.reaches.specs.Far.{PairSpread}
use Rattle.reaches.proofs.far.pair_spread.Given as goal

abbrev pub invariant-loop-old : goal.invariant-loop-old
invariant-loop-old l = PairSpread (length l.yielded) l.fn.olds l.fn.news l.most
