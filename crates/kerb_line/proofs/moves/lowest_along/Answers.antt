-- `kerb_line::moves::lowest_along` meets its contract: what is lowest of the rest, below the lowest so far, or else the lowest so far is lowest of all.
use Prim.Native.Nat.{ℕ, ◌+◌, ◌-◌, ◌≤◌}
use mathlib.Core.Path.{◌≡◌, sym, ◌∙◌, subst}
use native.Mathlib.Omega.{arith}
use lib.ListN.{length}
use Rattle.std.specs.Prelude.{Option, None}
use Rattle.std.specs.Option.{unwrap_or, option_or}
use Rattle.touching.specs.Touch.{OnMap}
use Rattle.kerb_line.specs.Lent.{runs_of}
use Rattle.kerb_line.specs.Inner.{LowestOf, move_touches}
use Rattle.kerb_line.proofs.KerbLaws.{lent_some, vertex_lent, on_map}
use Rattle.kerb_line.proofs.LowestLaws.{first_testable, of_first}
use Rattle.kerb_line.proofs.AlongLaws.{Along, along_start, along_more, beyond_none, all_done}
use Rattle.kerb_line.proofs.moves.lowest_along.Goals as goal
use Rattle.kerb_line.proofs.moves.lowest_along.Goals.{then-not-beyond, else-not-beyond}
use Rattle.kerb_line.proofs.moves.lowest_along.Goals.{Joined-not-beyond}

pub vertex_at-v-requires : goal.vertex_at-v-requires
vertex_at-v-requires c = let k = runs_of c.args.kerb in vertex_lent k c.args.kerb.count 0 c.requires.lent (lent_some k c.args.kerb.count c.requires.lent).0

pub loop-i-init : goal.loop-i-init
loop-i-init c = along_start c.args.olds.now c.args.news.now (runs_of c.args.kerb) c.args.kerb.count _ c.vertex_at-v.ensures

pub vertex_at-w-requires : goal.vertex_at-w-requires
vertex_at-w-requires c = vertex_lent (runs_of c.args.kerb) c.args.kerb.count c.loop-i.i c.requires.lent (omega (arith, c.loop-i-test.true))

pub lowest_of-requires : goal.lowest_of-requires
lowest_of-requires c =
    let a = c.args in
    let k = runs_of a.kerb in
    let r = c.requires in
    let most : c.unwrap_or-below.result ≤ length a.olds.now = omega (arith, c.unwrap_or-below.ensures, c.loop-i.invariant.most) in
    first_testable c.unwrap_or-below.result a.olds.now a.news.now _ _ most
    (record {
      moves = r.moves;
      old = r.old;
      new = r.new;
      from = subst OnMap (sym c.loop-i.invariant.at) (on_map k a.kerb.count (c.loop-i.i - 1) r.sound (omega (arith, c.loop-i-test.true)));
      to = subst OnMap (sym c.vertex_at-w.ensures) (on_map k a.kerb.count c.loop-i.i r.sound (omega (arith, c.loop-i-test.true)));
    })

-- the lowest so far, after the segment that ends at vertex i
module _ (c : Joined-not-beyond) where
  abbrev Found : Option ℕ → Type 0
  Found q = LowestOf (unwrap_or c.loop-i.lowest (length c.args.olds.now)) (move_touches c.args.olds.now c.args.news.now c.loop-i.v c.vertex_at-w.result) q

  after : (q : Option ℕ) × Found q × (c.if-not-beyond.lowest ≡ option_or q c.loop-i.lowest)
  after =
      let a = c.args in
      let below = unwrap_or c.loop-i.lowest (length a.olds.now) in
      elim c.if-not-beyond.branch [
        | then-not-beyond w ↦
            let m = w.unwrap_or-below.result in
            let most : m ≤ length a.olds.now = omega (arith, w.unwrap_or-below.ensures, c.loop-i.invariant.most) in
            let q = w.lowest_of.result in (
              q,
              subst (λ (n : ℕ). LowestOf n (move_touches a.olds.now a.news.now c.loop-i.v c.vertex_at-w.result) q) w.unwrap_or-below.ensures (of_first m a.olds.now a.news.now c.loop-i.v c.vertex_at-w.result most q w.lowest_of.ensures),
              w.lowest-is ∙ w.or-lowest.ensures,
            )
        | else-not-beyond w ↦ (None, beyond_none a.olds.now a.news.now c.of_moves-bounds.result c.loop-i.v c.vertex_at-w.result below c.loop-i.invariant.most c.requires.moves c.of_moves-bounds.ensures (sym w.if-not-beyond.ensures), w.lowest-is)
      ]

pub loop-i-preserved : goal.loop-i-preserved
loop-i-preserved c =
    let a = c.args in
    let k = runs_of a.kerb in
    let i = c.loop-i.i in
    let t = after c in
    let here : (i - 1) + 1 ≡ i = omega arith in
    let same : i ≡ i + 1 - 1 = omega arith in
    subst (λ (o : Option ℕ). Along a.olds.now a.news.now k a.kerb.count o c.vertex_at-w.result (i + 1 - 1)) (sym t.2)
    (subst (Along a.olds.now a.news.now k a.kerb.count (option_or t.0 c.loop-i.lowest) c.vertex_at-w.result) same
    (along_more a.olds.now a.news.now k a.kerb.count c.loop-i.lowest t.0 c.loop-i.v c.vertex_at-w.result (i - 1) i c.loop-i.invariant here (omega (arith, c.loop-i-test.true)) c.vertex_at-w.ensures t.1))

pub returns : goal.returns
returns c = all_done c.args.olds.now c.args.news.now (runs_of c.args.kerb) c.args.kerb.count c.loop-i.lowest (c.loop-i.i - 1) (omega (arith, c.loop-i-test.false)) c.loop-i.invariant.rest
