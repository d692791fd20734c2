-- `path::step_count` meets its contract: the total of the elements passed, and what the rest add, is the whole.
use mathlib.Core.Path.{sym, ◌∙◌}
use native.Mathlib.Omega.{arith}
use lib.ListN.{drop}
use Rattle.path.proofs.TotalLaws.{total_next, total_end, total_grows}
use Rattle.path.proofs.step_count.Goals as goal

pub tally_element-total-requires : goal.tally_element-total-requires
tally_element-total-requires c =
    let g = total_grows c.args.step c.loop-e.total (drop c.loop-e.e-index c.args.elements.now) in
    record { positive = omega (arith, c.requires.least); room = omega (arith, g, c.loop-e.invariant, c.requires.total) }

pub loop-e-preserved : goal.loop-e-preserved
loop-e-preserved c = rw c.tally_element-total.ensures (sym (total_next c.args.step c.loop-e.total c.args.elements.now c.loop-e.e-index c.loop-e-test.true) ∙ c.loop-e.invariant)

pub returns : goal.returns
returns c = sym (total_end c.args.step c.loop-e.total c.args.elements.now c.loop-e.e-index c.loop-e-test.false) ∙ c.loop-e.invariant
