-- `points::unit_places` meets its contract: the units left, from the front point reached, over the places filled in, are the whole rig,
-- and that front point lies within 400,000 a unit of the first.
use Prim.Native.Nat.{◌+◌, ◌-◌}
use mathlib.Core.Path.{◌≡◌, sym, ◌∙◌}
use native.Mathlib.Omega.{arith}
use lib.ListN.{take, get_or}
use lib.Seq.{get_or-take}
use Rattle.job.specs.Empty.{empty_unit}
use Rattle.points.proofs.EndLaws.{place_more, hitch_placed, units_enough, vectors_enough, next_ready, placed_more, placed_all}
use Rattle.points.proofs.unit_places.Goals as goal

pub loop-i-preserved : goal.loop-i-preserved
loop-i-preserved c =
    let r = c.requires.rig in
    let l = c.loop-i in
    let next = placed_more c.args.v.units c.args.d c.args.v.count l.i l.here l.places (units_enough r) (vectors_enough r) (omega (arith, c.loop-i-test.true)) in
    let same : get_or (take (c.args.v.count - 1) c.args.v.units) l.i empty_unit ≡ get_or c.args.v.units l.i empty_unit = get_or-take (c.args.v.count - 1) c.args.v.units l.i empty_unit (omega (arith, c.loop-i-test.true)) in
    record {
      near = rw (c.hitch_at-here.ensures, same) (place_more (omega arith) (hitch_placed (r.units l.i (omega (arith, c.loop-i-test.true))) l.invariant.near));
      left = rw (c.hitch_at-here.ensures, c.place_of.ensures, same) (next ∙ l.invariant.left);
    }

pub place_of-requires-2 : goal.place_of-requires-2
place_of-requires-2 c = next_ready c.requires (omega (arith, c.requires.rig.least)) (place_more (omega arith) c.loop-i.invariant.near)

pub returns : goal.returns
returns c =
    let r = c.requires.rig in
    let v = c.args.v in
    let last = v.count - 1 in
    let ended : c.loop-i.i ≡ last = omega arith in
    let whole = placed_all v.units c.args.d v.count (last + 1) _ _ (omega arith) in
    let next = placed_more v.units c.args.d v.count last c.loop-i.here c.loop-i.places (units_enough r) (vectors_enough r) (omega (arith, r.least)) in
    rw c.place_of-2.ensures (sym whole ∙ next ∙ (rw ended at c.loop-i.invariant.left))
