-- `reaches::ReachRoom::cross` meets its contract: after i turns the first i stations are crossed.
use Prim.Native.Nat.{ℕ}
use mathlib.Core.Path.{refl, sym, ◌∙◌, ap, subst}
use Rattle.path.specs.declared.Station.{Station}
use Rattle.path.specs.Lent.{path_of}
use Rattle.walk.specs.Drawn.{station_at}
use Rattle.reaches.specs.declared.Cell.{Cell}
use Rattle.reaches.specs.Crossing.{crossed_from, crossed_station}
use Rattle.reaches.specs.Far.{AtStation}
use Rattle.reaches.specs.Lent.{room_reaches}
use Rattle.reaches.proofs.CellLaws.{none_yet, one_more, lengths_of_lem, same_room, lent_at}
use Rattle.reaches.proofs.Loans.{same_loans, loans_on}
use Rattle.reaches.proofs.ReachRoom.cross.Goals as goal
use Rattle.reaches.proofs.ReachRoom.cross.Goals.{Start}

-- what each station's cell becomes
module _ (s : Start) where
  abbrev each : ℕ → Cell → Cell
  each i c = crossed_from 0 (station_at (path_of s.args.path) i) s.args.olds.now s.args.news.now c

pub loop-i-init : goal.loop-i-init
loop-i-init c = record { loans = same_loans; crossed = sym (none_yet (each ((goal.at.loop-i-init c).Start)) (room_reaches c.args.self.now)) }

pub cross_station-requires : goal.cross_station-requires
cross_station-requires c =
    let a = c.args in
    let y = c.requires in
    let i = c.loop-i.i in
    let t = c.loop-i-test.true in
    let sound = y.stations i t in
    let room = same_room (lengths_of_lem (each ((goal.at.cross_station-requires c).Start)) i (room_reaches a.self.now) c.loop-i.invariant.crossed) y.room in
    subst (λ (p : Station). AtStation i p c.of_step-spread.result a.olds.now a.news.now (room_reaches c.loop-i.self)) (sym c.station_at-s.ensures)
    (record {
      cell = record {
        moves = record { room = y.points; both = y.both; move = λ p h. record { station = sound; from = y.old p h; to = y.new p h } };
        lent = lent_at t room;
      };
      station = sound;
      even = y.even;
      spread = c.of_step-spread.ensures;
    })

pub loop-i-preserved : goal.loop-i-preserved
loop-i-preserved c =
    let a = c.args in
    let i = c.loop-i.i in
    let so_far = room_reaches c.loop-i.self in
    record {
      loans = loans_on c.loop-i.invariant.loans c.cross_station.ensures.loans;
      crossed = c.cross_station.ensures.crossed ∙ ap (λ (p : Station). crossed_station i p a.olds.now a.news.now so_far) c.station_at-s.ensures
          ∙ one_more (each ((goal.at.loop-i-preserved c).Start)) (room_reaches a.self.now) i so_far _ c.loop-i.invariant.crossed refl;
    }
