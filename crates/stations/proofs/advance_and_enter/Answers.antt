-- `stations::advance_and_enter` meets its contract.
use Prim.Native.Nat.{◌+◌}
use mathlib.Core.Path.{refl, sym, ap, subst₂}
use Rattle.std.proofs.lemmas.Result.{err_from_is_err_and}
use Rattle.path.specs.declared.Station.{Station}
use Rattle.path.specs.Lent.{path_of}
use Rattle.walk.specs.Drawn.{view}
use Rattle.walk.specs.Moving.{AdvanceReady}
use Rattle.walk.specs.Rig.{Stepped}
use Rattle.walk.proofs.PathTests.{station_lent}
use Rattle.walk.proofs.RecordTests.{lent_call, sound_record, not_last_lem}
use Rattle.walk.proofs.ReadyLaws.{advance_ready}
use Rattle.reaches.specs.Lent.{room_reaches}
use Rattle.stations.specs.Placing.{call_of}
use Rattle.stations.specs.Inner.{Enterable}
use Rattle.stations.proofs.StepLaws.{drawn, unit_refused, step_made, err_not_made}
use Rattle.stations.proofs.Entering.{enterable}
use Rattle.stations.proofs.advance_and_enter.Goals as goal

pub step_stations-requires-clause-here : goal.step_stations-requires-clause-here
step_stations-requires-clause-here c =
    station_lent (path_of c.args.path) c.args.asked c.args.w.now.station (lent_call _ c.requires.lent).0.room (sound_record c.args.asked (view c.args.w.now) c.requires.rig).station

pub step_stations-requires-clause-next : goal.step_stations-requires-clause-next
step_stations-requires-clause-next c =
    station_lent (path_of c.args.path) c.args.asked (c.args.w.now.station + 1) (lent_call _ c.requires.lent).0.room (not_last_lem c.args.asked (view c.args.w.now) c.requires.not_last)

pub advance-requires : goal.advance-requires
advance-requires c =
    subst₂ (λ (a b : Station). AdvanceReady c.args.w.now a.position b.position) (sym c.step_stations.ensures.from) (sym c.step_stations.ensures.to)
    (advance_ready c.args.asked (path_of c.args.path) c.args.w.now c.step_stations.ensures.places c.step_stations.ensures.vectors (lent_call _ c.requires.lent).0.most c.requires.path c.requires.rig c.requires.not_last)

pub returns-in_err-advance-clause-stepped : goal.returns-in_err-advance-clause-stepped
returns-in_err-advance-clause-stepped c =
    let p = err_from_is_err_and c.from_residual.result c.from_residual.ensures.1 in
    let here = c.step_stations.ensures.from in
    rw (p.1, p.2) (unit_refused c.args.w.now _ (room_reaches c.args.room.now) c.requires here c.step_stations.ensures.to _ c.in_err-advance.ensures (err_not_made c.in_err-advance.field-0.0))

pub enter-requires : goal.enter-requires
enter-requires c =
    let w = c.args.w.now in
    let w' = c.advance.new.w in
    let r = room_reaches c.args.room.now in
    let call = call_of c.args.asked (path_of c.args.path) r in
    let from = c.step_stations.ensures.from in
    let to = c.step_stations.ensures.to in
    let e = drawn w call r c.requires from to _ c.in_ok-advance.ensures in
    subst₂ (λ (a b : Station). Enterable w w' a.position b.position call) (sym from) (sym to)
    (enterable w w' call c.step_stations.ensures.places c.requires (sym (ap (λ (z : Stepped). z.state) e)))

pub returns-clause-stepped : goal.returns-clause-stepped
returns-clause-stepped c =
    step_made c.args.w.now _ (room_reaches c.args.room.now) c.requires c.step_stations.ensures.from c.step_stations.ensures.to _ c.in_ok-advance.ensures _ refl c.enter.ensures.entered
