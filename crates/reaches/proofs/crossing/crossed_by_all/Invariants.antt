-- `reaches::crossing::crossed_by_all` meets its contract: what the points that are left make of the cell so far is what all make of the first.
use mathlib.Core.Path.{◌≡◌}
use lib.ListN.{drop}
use Rattle.reaches.specs.Crossing.{crossed_from}
use Rattle.reaches.proofs.crossing.crossed_by_all.Given as goal

abbrev pub invariant-loop-p : goal.invariant-loop-p
invariant-loop-p l = crossed_from l.p l.s (drop l.p l.olds) (drop l.p l.news) l.next ≡ crossed_from 0 l.s l.olds l.news l.initial.next
