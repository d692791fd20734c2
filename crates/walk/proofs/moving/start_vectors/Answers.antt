-- `walk::moving::start_vectors` meets its contract: the vectors placed, and those of the rest, are the whole.
use Prim.Native.Nat.{◌≤◌}
use mathlib.Core.Path.{◌≡◌}
use native.Mathlib.Omega.{arith}
use borrow.Author.Rules.{rules}
use lib.ListN.{length}
use Rattle.job.proofs.Arrays.{unmapped}
use Rattle.walk.specs.Rig.{start_vectors}
use Rattle.walk.proofs.MovingLaws.{placed_end}
use Rattle.walk.proofs.moving.start_vectors.Goals as goal

pub returns : goal.returns
unfolding start_vectors
returns c =
    let v = c.args.v in
    let four : length v.units ≡ 4 = search (rules, unmapped) in
    let done : v.count ≤ c.loop-i.i = omega (arith, c.loop-i-test.false, c.requires.most) in
    placed_end c.args.g v.units v.count c.loop-i.i c.loop-i.d _ done c.loop-i.invariant
