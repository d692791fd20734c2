-- `reaches::crossing::some_crosses` meets its contract: whether any of the points that are left crosses is whether any of all does.
use Prim.Native.Nat.{ℕ, ◌+◌, ◌*◌, ◌/◌, ◌≤◌, ◌<◌}
use mathlib.Core.Path.{◌≡◌, sym, ◌∙◌, subst}
use mathlib.Core.List.{List, []}
use native.Mathlib.Omega.{arith}
use borrow.Author.Rules.{rules}
use lib.IntN.{ℤ}
use lib.ListN.{length}
use Rattle.std.specs.Simd.{first_chunks}
use Rattle.std.proofs.lemmas.List.{length_push}
use Rattle.std.proofs.lemmas.Slice.Zip.{zip_turn, zip_end}
use Rattle.exact.proofs.Machine.{reread}
use Rattle.plane.specs.declared.Vec2.{Vec2}
use Rattle.reaches.specs.Far.{PairMoves}
use Rattle.reaches.proofs.PairLaws.{IsPair, chunks_counted, is_pair, crosses_as, moves_as, pair_passed, pair_met, pairs_end}
use Rattle.reaches.proofs.crossing.some_crosses.Goals as goal
use Rattle.reaches.proofs.crossing.some_crosses.Goals.{In-Some}

-- the pair of this turn
module _ (c : In-Some) where
  abbrev olds : List Vec2
  olds = c.args.olds.now

  abbrev news : List Vec2
  news = c.args.news.now

  abbrev k : ℕ
  k = length c.loop-old.yielded

  turn : (k < length olds / 2) × IsPair olds k c.in-Some.old.now × IsPair news k c.in-Some.new.now
  turn =
      let n = length olds / 2 in
      let m = length news / 2 in
      let t = zip_turn (first_chunks 2 n olds) (first_chunks 2 m news) c.loop-old.yielded c.into_iter-old-iterator.result c.loop-old.old-iterator c.next.new.self c.next.result (cc) (cc) c.loop-old.yielded_by _ c.in-Some.is c.next.ensures.steps in
      let h : k < n = omega (arith, t.0, chunks_counted n olds) in
      let l : k < m = omega (arith, t.1, chunks_counted m news) in
      (h, is_pair n k olds _ h (t.2 []), is_pair m k news _ l (t.3 []))

  there : 2 * k + 1 < length olds
  there = let h = turn.0 in omega (arith, h)

pub pair_crosses-requires : goal.pair_crosses-requires
pair_crosses-requires c =
    let s = (goal.at.pair_crosses-requires c).In-Some in
    let t = turn s in
    let near : reread c.args.near ≡ c.args.near = search rules in
    subst (λ (z : ℤ). PairMoves c.args.s z c.in-Some.old.now c.in-Some.new.now) (sym near) (moves_as t.1 t.2 c.args.s c.args.near c.requires t.0)

pub returns-then-pair_crosses : goal.returns-then-pair_crosses
returns-then-pair_crosses c =
    let s = (goal.at.returns-then-pair_crosses c).In-Some in
    let t = turn s in
    sym (pair_met (k s) c.args.s (olds s) (news s) c.requires.moves.both (there s) (sym (crosses_as t.1 t.2 c.args.s) ∙ sym c.pair_crosses.ensures ∙ c.if-pair_crosses.true)) ∙ c.loop-old.invariant

pub loop-old-preserved : goal.loop-old-preserved
loop-old-preserved c =
    let s = (goal.at.loop-old-preserved c).In-Some in
    let t = turn s in
    rw length_push
    (pair_passed (k s) c.args.s (olds s) (news s) c.requires.moves.both (there s) (sym (crosses_as t.1 t.2 c.args.s) ∙ sym c.pair_crosses.ensures ∙ c.if-pair_crosses.false) ∙ c.loop-old.invariant)

pub returns : goal.returns
returns c =
    let xs = c.args.olds.now in
    let ys = c.args.news.now in
    let n = length xs / 2 in
    let m = length ys / 2 in
    let t = zip_end (first_chunks 2 n xs) (first_chunks 2 m ys) c.loop-old.yielded c.into_iter-old-iterator.result c.loop-old.old-iterator c.next.new.self c.next.result (cc) (cc) c.loop-old.yielded_by c.in-None.is c.next.ensures.steps in
    let done : length xs ≤ 2 * length c.loop-old.yielded = omega (arith, t, chunks_counted n xs, chunks_counted m ys, c.requires.even, c.requires.moves.both) in
    sym (pairs_end (length c.loop-old.yielded) c.args.s xs ys done) ∙ c.loop-old.invariant
