-- `reaches::far::Spread::of_step` meets its contract.
use Prim.Native.Nat.{◌/◌, ◌<◌}
use mathlib.Core.Path.{◌≡◌, sym, subst}
use native.Mathlib.Omega.{arith}
use borrow.Author.Rules.{rules}
use lib.IntN.{ℤ}
use lib.ListN.{length, get_or}
use lib.Signed.{◌≤ℤ◌}
use Rattle.exact.specs.Size.{Within}
use Rattle.exact.proofs.Machine.{reread}
use Rattle.exact.proofs.Order.{≤ℤ-trans}
use Rattle.walk.specs.Rig.{zero_vector}
use Rattle.reaches.specs.Far.{Near, PairSpread}
use Rattle.reaches.proofs.far.Spread.of_step.Goals as goal

pub returns : goal.returns
returns c =
    let olds = c.args.olds.now in
    let news = c.args.news.now in
    let n = length olds in
    let from = get_or olds (n / 2) zero_vector in
    let middle : n / 2 < n = omega (arith, c.requires.some) in
    let kept : reread c.farthest.result ≡ c.farthest.result = search rules in
    let near : reread c.farthest-2.result ≡ c.farthest-2.result = search rules in
    let beside : reread c.pair_spread.result ≡ c.pair_spread.result = search rules in
    let further : c.farthest.result ≤ℤ c.farthest-2.result = subst (λ (z : ℤ). z ≤ℤ c.farthest-2.result) kept c.farthest-2.ensures.least in
    record {
      place = c.requires.sized.old _ middle;
      old = subst (Near from olds n) (sym near) (record { each = λ p h. ≤ℤ-trans (c.farthest.ensures.near.each p h) further });
      new = subst (Near from news n) (sym near) (record { each = λ p h. c.farthest-2.ensures.near.each p (omega (arith, h, c.requires.sized.both)) });
      size = subst (Within 640000000) (sym near) c.farthest-2.ensures.size;
      pairs = subst (PairSpread (n / 2) olds news) (sym beside) c.pair_spread.ensures;
    }
