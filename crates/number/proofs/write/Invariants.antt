-- `number::write` meets its contract. Assumes nothing.
use Rattle.number.proofs.Writing.{Left}
use Rattle.number.proofs.write.Given as goal

abbrev pub invariant-loop-y : goal.invariant-loop-y
invariant-loop-y l = Left l.initial.run l.at l.x l.run l.i l.y

abbrev pub decreases-loop-y : goal.decreases-loop-y
decreases-loop-y l = l.y
