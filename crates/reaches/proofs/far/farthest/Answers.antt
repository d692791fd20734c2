-- `reaches::far::farthest` meets its contract: none of the points so far lies farther off.
use Prim.Native.Nat.{◌+◌}
use mathlib.Core.Path.{◌≡◌, refl, sym, ◌∙◌, subst}
use borrow.Author.Rules.{rules}
use mir.Syntax.{w64}
use mir.Val.{to_z}
use Rattle.exact.specs.Size.{Within}
use Rattle.exact.proofs.Machine.{reread}
use Rattle.reaches.specs.Far.{Farthest}
use Rattle.reaches.proofs.LeastGreatest.{greater_of}
use Rattle.reaches.proofs.FarLaws.{apart_sized, farthest_more}
use Rattle.reaches.proofs.far.farthest.Goals as goal

pub loop-point-preserved : goal.loop-point-preserved
loop-point-preserved c =
    let a = c.args in
    let n = c.loop-point.point-index in
    let so_far = to_z w64 c.loop-point.most-bits in
    let kept : reread c.max-most.result ≡ c.max-most.result = search rules in
    let here : reread c.apart.result ≡ c.apart.result = search rules in
    let most = kept ∙ greater_of {a = so_far} refl here c.max-most.ensures.value in
    let sized = subst (Within 640000000) (sym c.apart.ensures) (apart_sized _ _ c.requires.place (c.requires.each n c.loop-point-test.true)) in
    subst (Farthest a.from (reread a.least) a.points.now (n + 1)) (sym most)
    (farthest_more a.from (reread a.least) a.points.now n so_far c.apart.result c.loop-point.invariant c.apart.ensures sized)
