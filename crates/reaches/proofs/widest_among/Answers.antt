-- `reaches::widest_among` meets its contract.
use mathlib.Core.Path.{sym, ◌∙◌, ap}
use Rattle.reaches.specs.declared.Cell.{Cell}
use Rattle.reaches.specs.Lent.{reached_of}
use Rattle.reaches.specs.Widest.{considered}
use Rattle.reaches.proofs.WidestLaws.{none_considered, one_considered}
use Rattle.reaches.proofs.widest_among.Goals as goal

pub loop-i-init : goal.loop-i-init
loop-i-init c = sym (none_considered c.args.count (reached_of c.args.runs))

pub loop-i-preserved : goal.loop-i-preserved
loop-i-preserved c =
    let a = c.args in
    let i = c.loop-i.i in
    c.considered-best.ensures ∙ ap (λ (d : Cell). considered a.count i d c.loop-i.best) c.cell.ensures ∙ one_considered a.count (reached_of a.runs) i c.loop-i.best c.loop-i.invariant
