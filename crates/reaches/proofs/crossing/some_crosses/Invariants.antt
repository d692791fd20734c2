-- `reaches::crossing::some_crosses` meets its contract: whether any of the points that are left crosses is whether any of all does.
use Prim.Native.Nat.{◌*◌}
use mathlib.Core.Path.{◌≡◌}
use lib.ListN.{length, drop}
use Rattle.reaches.specs.Crossing.{some_crosses}
use Rattle.reaches.proofs.crossing.some_crosses.Given as goal

abbrev pub invariant-loop-old : goal.invariant-loop-old
invariant-loop-old l = some_crosses l.s (drop (2 * length l.yielded) l.fn.olds) (drop (2 * length l.yielded) l.fn.news) ≡ some_crosses l.s l.fn.olds l.fn.news
