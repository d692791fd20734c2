-- `stations::place` meets its contract: refused, and nothing written; or placed.
use mathlib.Core.Path.{◌≡◌, sym, ◌∙◌, ap, subst}
use lib.ListN.{length}
use borrow.Author.Rules.{rules}
use Rattle.std.proofs.lemmas.Result.{err_from_is_err_and}
use Rattle.path.specs.declared.Station.{Station}
use Rattle.path.specs.Lent.{path_of}
use Rattle.job.proofs.Arrays.{unmapped}
use Rattle.job.proofs.FaultLaws.{numbered}
use Rattle.walk.specs.Rig.{drawn_start}
use Rattle.walk.specs.Moving.{StartReady}
use Rattle.walk.proofs.PathTests.{path_station, station_lent}
use Rattle.walk.proofs.RecordTests.{lent_call}
use Rattle.walk.proofs.ReadyLaws.{start_ready}
use Rattle.reaches.specs.Lent.{room_reaches}
use Rattle.stations.specs.Placing.{call_of}
use Rattle.stations.proofs.CallLaws.{call_passed, place_by_call, place_by_vehicle, vehicle_passed}
use Rattle.stations.proofs.PlaceLaws.{place_refused, place_done}
use Rattle.stations.proofs.Entering.{room_of}
use Rattle.stations.proofs.place.Goals as goal

pub returns-in_err-call_tested-clause-placed : goal.returns-in_err-call_tested-clause-placed
returns-in_err-call_tested-clause-placed c =
    let p = err_from_is_err_and c.from_residual.result c.from_residual.ensures.1 in
    let n = numbered c.in_err-call_tested.field-0.0 in
    rw (p.1, p.2) (place_refused c.args.v c.args.w.now _ (room_reaches c.args.room.now) _ (place_by_call c.args.v _ _ c.in_err-call_tested.ensures n) n)

pub returns-in_err-vehicle_tested-clause-placed : goal.returns-in_err-vehicle_tested-clause-placed
returns-in_err-vehicle_tested-clause-placed c =
    let p = err_from_is_err_and c.from_residual-in_err-vehicle_tested.result c.from_residual-in_err-vehicle_tested.ensures.1 in
    let e = c.in_err-vehicle_tested.ensures in
    rw (p.1, p.2) (place_refused c.args.v c.args.w.now _ (room_reaches c.args.room.now) _ (place_by_vehicle c.args.v _ c.in_ok-call_tested.ensures ∙ sym e) (numbered c.in_err-vehicle_tested.field-0.0))

pub station_at-start-requires : goal.station_at-start-requires
station_at-start-requires c = let l = (lent_call _ (call_passed _ c.in_ok-call_tested.ensures).lent).0 in station_lent (path_of c.args.path) c.args.asked 0 l.room l.least

pub clear-requires : goal.clear-requires
clear-requires c = room_of c.args.asked (path_of c.args.path) (room_reaches c.args.room.now) (call_passed _ c.in_ok-call_tested.ensures).lent

pub start-requires : goal.start-requires
start-requires c =
    let places : length c.args.v.units ≡ 4 = search (rules, unmapped) in
    let p = call_passed _ c.in_ok-call_tested.ensures in
    let path = path_of c.args.path in
    subst (λ (z : Station). StartReady c.args.v z.heading) (sym c.station_at-start.ensures)
    (start_ready c.args.v places (vehicle_passed c.args.v c.in_ok-vehicle_tested.ensures) _ (path_station path c.args.asked 0 p.path (lent_call _ p.lent).0.least).heading)

pub returns-clause-placed : goal.returns-clause-placed
returns-clause-placed c =
    let v = c.args.v in
    place_done v c.args.w.now (call_of c.args.asked (path_of c.args.path) (room_reaches c.args.room.now)) (room_reaches c.args.room.now) _ _
    (place_by_vehicle v _ c.in_ok-call_tested.ensures ∙ sym c.in_ok-vehicle_tested.ensures)
    (c.start.ensures ∙ ap (λ (z : Station). drawn_start v z.heading) c.station_at-start.ensures)
    c.clear.ensures.cleared
