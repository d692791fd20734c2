-- `reaches::widest_among` meets its contract.
use mathlib.Core.Path.{◌≡◌}
use Rattle.reaches.specs.Lent.{reached_of}
use Rattle.reaches.specs.Widest.{widest_among}
use Rattle.reaches.proofs.widest_among.Given as goal

abbrev pub invariant-loop-i : goal.invariant-loop-i
invariant-loop-i l = l.best ≡ widest_among l.count l.i (reached_of l.runs)
