-- `number::write` meets its contract. Assumes nothing.
use native.Mathlib.Omega.{arith}
use lib.ListN.{length-set}
use Rattle.number.proofs.Writing.{start, turn, inside, last}
use Rattle.number.proofs.write.Goals as goal

pub loop-y-init : goal.loop-y-init
loop-y-init c = start _ _ _ (omega arith)

pub bounds-run-i : goal.bounds-run-i
bounds-run-i c = inside _ _ _ _ _ _ c.requires.ends c.loop-y.invariant

pub loop-y-preserved : goal.loop-y-preserved
loop-y-preserved c = turn _ _ _ _ _ _ c.loop-y-test.true c.loop-y.invariant

pub bounds-run-i-2 : goal.bounds-run-i-2
bounds-run-i-2 c = inside _ _ _ _ _ _ c.requires.ends c.loop-y.invariant

pub shape_of-run : goal.shape_of-run
shape_of-run c = simp length-set c.loop-y.invariant.pending.long

pub returns : goal.returns
returns c = last _ _ _ _ _ _ c.loop-y-test.false c.loop-y.invariant
