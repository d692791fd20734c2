-- `kerb_line::moves::lowest` meets its contract: a kerb is a single vertex, or has a segment between each two.
use Prim.Native.Nat.{◌<◌}
use mathlib.Core.Path.{sym, subst}
use mathlib.Core.List.{List}
use native.Mathlib.Omega.{arith}
use lib.ListN.{length}
use Rattle.plane.specs.declared.Vec2.{Vec2}
use Rattle.touching.specs.Touch.{OnMap}
use Rattle.kerb_line.specs.Lent.{runs_of}
use Rattle.kerb_line.specs.Contact.{Segment}
use Rattle.kerb_line.specs.Inner.{LowestOf, move_touches, move_touches_one}
use Rattle.kerb_line.proofs.KerbLaws.{lent_some, vertex_lent, on_map}
use Rattle.kerb_line.proofs.AlongLaws.{of_point, of_line}
use Rattle.kerb_line.proofs.moves.lowest.Goals as goal

pub vertex_at-v-requires : goal.vertex_at-v-requires
vertex_at-v-requires c = let k = runs_of c.args.kerb in vertex_lent k c.args.kerb.count 0 c.requires.lent (lent_some k c.args.kerb.count c.requires.lent).0

pub lowest_of-requires : goal.lowest_of-requires
lowest_of-requires c =
    let k = runs_of c.args.kerb in
    let r = c.requires in
    let v = subst OnMap (sym c.vertex_at-v.ensures) (on_map k c.args.kerb.count 0 r.sound (lent_some k c.args.kerb.count r.lent).0) in
    record { moves = r.moves; old = r.old; new = r.new; from = v; to = v }

pub returns-then-kerb-eq1 : goal.returns-then-kerb-eq1
returns-then-kerb-eq1 c =
    let a = c.args in
    of_point a.olds.now a.news.now (runs_of a.kerb) a.kerb.count c.if-kerb-eq1.true c.lowest_of.result
    (subst (λ (v : Vec2). LowestOf (length a.olds.now) (move_touches a.olds.now a.news.now v v) c.lowest_of.result) c.vertex_at-v.ensures c.lowest_of.ensures)

pub returns : goal.returns
returns c =
    let a = c.args in
    let k = runs_of a.kerb in
    let some = (lent_some k a.kerb.count c.requires.lent).0 in
    let line : 1 < a.kerb.count = omega (arith, some, c.if-kerb-eq1.false) in
    subst (λ (ss : List Segment). LowestOf (length a.olds.now) (move_touches_one a.olds.now a.news.now ss) c.lowest_along.result) (of_line k a.kerb.count line) c.lowest_along.ensures
