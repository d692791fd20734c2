-- `path::step_count` meets its contract: the total of the elements passed, and what the rest add, is the whole.
use mathlib.Core.Path.{◌≡◌}
use lib.ListN.{drop}
use Rattle.path.specs.Stations.{step_total}
use Rattle.path.proofs.step_count.Given as goal

abbrev pub invariant-loop-e : goal.invariant-loop-e
invariant-loop-e l = step_total l.step l.total (drop l.e-index l.elements) ≡ step_total l.step 0 l.elements
