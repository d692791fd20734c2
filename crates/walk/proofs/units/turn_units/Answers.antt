-- `walk::units::turn_units` meets its contract: what is left to turn, after what is turned, is the whole.
use Prim.Native.Nat.{◌+◌}
use mathlib.Core.Path.{◌≡◌, sym, subst₂}
use borrow.Author.Rules.{rules}
use lib.ListN.{length, take, get_or, set}
use Rattle.plane.specs.declared.Vec2.{Vec2}
use Rattle.job.specs.Empty.{empty_unit}
use Rattle.job.proofs.Arrays.{unmapped}
use Rattle.walk.specs.Units.{none, behind, turn_units}
use Rattle.walk.proofs.UnitsLaws.{UnitsLeft, turn_ready, stopped_here, hitch_to, units_next, units_done}
use Rattle.walk.proofs.units.turn_units.Goals as goal
use Rattle.walk.proofs.units.turn_units.Goals.{Start}

-- at the entry
module _ (c : Start) where
  units : length c.args.v.units ≡ 4
  units = search (rules, unmapped)

  vectors : length c.args.d ≡ 4
  vectors = search rules

pub turn_next-requires : goal.turn_next-requires
turn_next-requires c =
    let s = (goal.at.turn_next-requires c).Start in
    turn_ready c.loop-i.invariant c.requires.rig (units s) (vectors s) c.loop-i-test.true

pub returns-in-Err : goal.returns-in-Err
returns-in-Err c =
    let s = (goal.at.returns-in-Err c).Start in
    stopped_here c.loop-i.invariant c.requires.rig (units s) (vectors s) c.loop-i-test.true _ c.in-Err.ensures

pub hitch_at-to-requires : goal.hitch_at-to-requires
hitch_at-to-requires c =
    let s = (goal.at.hitch_at-to-requires c).Start in
    hitch_to c.loop-i.invariant c.requires.rig (units s) (vectors s) c.loop-i-test.true c.in-Ok.x c.in-Ok.ensures

pub loop-i-preserved : goal.loop-i-preserved
loop-i-preserved c =
    let s = (goal.at.loop-i-preserved c).Start in
    let v = c.args.v in
    let x = c.in-Ok.x in
    let whole = turn_units 1 none (take v.count v.units) c.args.d c.args.old c.args.new in
    let L : Vec2 → Vec2 → Type 0 = λ p q. UnitsLeft v c.args.d whole (c.loop-i.i + 1) (set c.loop-i.turned c.loop-i.i x) p q (behind (get_or v.units c.loop-i.i empty_unit) x) in
    subst₂ L (sym c.hitch_at-from.ensures) (sym c.hitch_at-to.ensures)
    (units_next c.loop-i.invariant c.requires.rig (units s) (vectors s) c.loop-i-test.true x c.in-Ok.ensures)

pub returns : goal.returns
returns c = units_done c.loop-i.invariant c.loop-i-test.false
