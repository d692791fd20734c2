-- `reaches::crossing::crossed_by_all` meets its contract: what the points that are left make of the cell so far is what all make of the first.
use mathlib.Core.Path.{sym, ◌∙◌}
use native.Mathlib.Omega.{arith}
use Rattle.reaches.proofs.CrossingLaws.{crossed_next, crossed_end}
use Rattle.reaches.proofs.crossing.crossed_by_all.Goals as goal

pub loop-p-preserved : goal.loop-p-preserved
loop-p-preserved c =
    let a = c.args in
    rw c.crossed_cell-next.ensures
    (sym (crossed_next c.loop-p.p a.s a.olds.now a.news.now c.loop-p.next c.loop-p-test.true (omega (arith, c.requires.both, c.loop-p-test.true))) ∙ c.loop-p.invariant)

pub returns : goal.returns
returns c = let a = c.args in sym (crossed_end c.loop-p.p a.s a.olds.now a.news.now c.loop-p.next (omega (arith, c.loop-p-test.false))) ∙ c.loop-p.invariant
