-- `reaches::far::farthest` meets its contract: none of the points so far lies farther off.
use Rattle.reaches.specs.Far.{Farthest}
use Rattle.reaches.proofs.far.farthest.Given as goal

abbrev pub invariant-loop-point : goal.invariant-loop-point
invariant-loop-point l = Farthest l.from l.fn.least l.points l.point-index l.most
