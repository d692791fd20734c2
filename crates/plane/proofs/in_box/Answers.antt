-- `plane::in_box` meets its contract.
use mathlib.Core.Path.{◌≡◌, ◌∙◌, ap}
use mathlib.Core.Bool.{true, false}
use borrow.Author.Rules.{rules}
use lib.Dec.{leb}
use lib.IntN.{nat_abs}
use Rattle.exact.proofs.Machine.{reread}
use Rattle.plane.specs.Length.{in_box}
use Rattle.plane.proofs.in_box.Goals as goal
use Rattle.plane.proofs.in_box.Goals.{After-unsigned_abs}

module _ (c : After-unsigned_abs) where
  size_x : c.unsigned_abs.result ≡ nat_abs c.args.v.x
  size_x = let e : reread c.args.v.x ≡ c.args.v.x = search rules in c.unsigned_abs.ensures.value ∙ ap nat_abs e

  size_k : c.unsigned_abs-most.result ≡ nat_abs c.args.k
  size_k = let e : reread c.args.k ≡ c.args.k = search rules in c.unsigned_abs-most.ensures.value ∙ ap nat_abs e

pub returns-then-unsigned_abs-most : goal.returns-then-unsigned_abs-most
unfolding in_box
returns-then-unsigned_abs-most c =
    let a = (goal.at.returns-then-unsigned_abs-most c).After-unsigned_abs in
    let e : reread c.args.v.y ≡ c.args.v.y = search rules in
    let y : c.unsigned_abs-then-unsigned_abs-most.result ≡ nat_abs c.args.v.y = c.unsigned_abs-then-unsigned_abs-most.ensures.value ∙ ap nat_abs e in
    let t : leb c.unsigned_abs.result c.unsigned_abs-most.result ≡ true = search rules in
    rw (← size_x a, ← y, ← size_k a, t)

pub returns-else-unsigned_abs-most : goal.returns-else-unsigned_abs-most
unfolding in_box
returns-else-unsigned_abs-most c =
    let a = (goal.at.returns-else-unsigned_abs-most c).After-unsigned_abs in
    let t : leb c.unsigned_abs.result c.unsigned_abs-most.result ≡ false = search rules in
    rw (← size_x a, ← size_k a, t)
