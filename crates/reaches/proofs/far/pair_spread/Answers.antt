-- `reaches::far::pair_spread` meets its contract: no point of a pair so far lies farther off.
use Prim.Native.Nat.{ℕ, ◌+◌, ◌*◌, ◌/◌, ◌<◌}
use mathlib.Core.Path.{◌≡◌, refl, sym, ◌∙◌, ap₂, subst, subst₂}
use mathlib.Core.List.{List, []}
use native.Mathlib.Omega.{arith}
use borrow.Author.Rules.{rules}
use lib.ListN.{length}
use mir.Syntax.{w64}
use mir.Val.{to_z}
use Rattle.std.specs.Simd.{first_chunks}
use Rattle.std.proofs.lemmas.List.{length_push}
use Rattle.std.proofs.lemmas.Slice.Zip.{zip_turn}
use Rattle.exact.specs.Size.{Within}
use Rattle.exact.proofs.Machine.{reread}
use Rattle.plane.specs.declared.Vec2.{Vec2}
use Rattle.reaches.specs.Far.{apart, PairSpread, BothSized}
use Rattle.reaches.proofs.LeastGreatest.{greater_of}
use Rattle.reaches.proofs.FarLaws.{apart_sized}
use Rattle.reaches.proofs.PairLaws.{IsPair, chunks_counted, is_pair, pairs_next}
use Rattle.reaches.proofs.far.pair_spread.Goals as goal
use Rattle.reaches.proofs.far.pair_spread.Goals.{In-Some}

-- the pair of this turn
module _ (c : In-Some) where
  abbrev olds : List Vec2
  olds = c.args.olds.now

  abbrev news : List Vec2
  news = c.args.news.now

  abbrev k : ℕ
  k = length c.loop-old.yielded

  turn : (k < length olds / 2) × IsPair olds k c.in-Some.old.now × IsPair news k c.in-Some.new.now
  turn =
      let n = length olds / 2 in
      let m = length news / 2 in
      let t = zip_turn (first_chunks 2 n olds) (first_chunks 2 m news) c.loop-old.yielded c.into_iter-old-iterator.result c.loop-old.old-iterator c.next.new.self c.next.result (cc) (cc) c.loop-old.yielded_by _ c.in-Some.is c.next.ensures.steps in
      let h : k < n = omega (arith, t.0, chunks_counted n olds) in
      let l : k < m = omega (arith, t.1, chunks_counted m news) in
      (h, is_pair n k olds _ h (t.2 []), is_pair m k news _ l (t.3 []))

  left_there : 2 * k < length olds
  left_there = let h = turn.0 in omega (arith, h)

  right_there : 2 * k + 1 < length olds
  right_there = let h = turn.0 in omega (arith, h)

pub apart-requires : goal.apart-requires
apart-requires c =
    let s = (goal.at.apart-requires c).In-Some in
    let o = (turn s).1 in
    subst₂ BothSized (sym o.left) (sym o.right) (record { first = c.requires.old _ (left_there s); second = c.requires.old _ (right_there s) })

pub apart-requires-in-loop-old : goal.apart-requires-in-loop-old
apart-requires-in-loop-old c =
    let s = (goal.at.apart-requires-in-loop-old c).In-Some in
    let t = turn s in
    subst₂ BothSized (sym t.1.left) (sym t.2.right) (record { first = c.requires.old _ (left_there s); second = c.requires.new _ (right_there s) })

pub apart-requires-in-loop-old-2 : goal.apart-requires-in-loop-old-2
apart-requires-in-loop-old-2 c =
    let s = (goal.at.apart-requires-in-loop-old-2 c).In-Some in
    let t = turn s in
    subst₂ BothSized (sym t.1.left) (sym t.2.left) (record { first = c.requires.old _ (left_there s); second = c.requires.new _ (left_there s) })

pub loop-old-preserved : goal.loop-old-preserved
loop-old-preserved c =
    let s = (goal.at.loop-old-preserved c).In-Some in
    let t = turn s in
    let so_far = to_z w64 c.loop-old.most-bits in
    let other : reread c.apart.result ≡ c.apart.result = search rules in
    let moved : reread c.apart-in-loop-old.result ≡ c.apart-in-loop-old.result = search rules in
    let new : reread c.apart-in-loop-old-2.result ≡ c.apart-in-loop-old-2.result = search rules in
    let right : reread c.max-right.result ≡ c.max-right.result = search rules in
    let inner : reread c.max.result ≡ c.max.result = search rules in
    let kept : reread c.max-most.result ≡ c.max-most.result = search rules in
    let most = kept ∙ greater_of {a = so_far} refl (inner ∙ greater_of new (right ∙ greater_of other moved c.max-right.ensures.value) c.max.ensures.value) c.max-most.ensures.value in
    let from = c.requires.old _ (left_there s) in
    let a = c.apart-in-loop-old-2.ensures ∙ ap₂ apart t.1.left t.2.left in
    let b = c.apart.ensures ∙ ap₂ apart t.1.left t.1.right in
    let d = c.apart-in-loop-old.ensures ∙ ap₂ apart t.1.left t.2.right in
    rw length_push
    (subst (PairSpread (k s + 1) (olds s) (news s)) (sym most)
    (pairs_next (olds s) (news s) (k s) so_far _ _ _ c.loop-old.invariant a b d
    (subst (Within 640000000) (sym a) (apart_sized _ _ from (c.requires.new _ (left_there s))))
    (subst (Within 640000000) (sym b) (apart_sized _ _ from (c.requires.old _ (right_there s))))
    (subst (Within 640000000) (sym d) (apart_sized _ _ from (c.requires.new _ (right_there s))))))
