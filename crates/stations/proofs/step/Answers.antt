-- `stations::step` meets its contract: refused before the units turn, or the step of an open call.
use Rattle.job.proofs.FaultLaws.{numbered}
use Rattle.walk.specs.Drawn.{view}
use Rattle.reaches.specs.Lent.{room_reaches}
use Rattle.stations.proofs.CallLaws.{call_down, record_down, call_open}
use Rattle.stations.proofs.StepLaws.{step_refused}
use Rattle.stations.proofs.step.Goals as goal

pub returns-in-Err-clause-stepped : goal.returns-in-Err-clause-stepped
returns-in-Err-clause-stepped c =
    step_refused c.args.w.now _ (room_reaches c.args.room.now) _ (call_down (view c.args.w.now) _ _ c.in-Err.ensures (numbered c.in-Err.fault))

pub returns-in-Err-record_tested-clause-stepped : goal.returns-in-Err-record_tested-clause-stepped
returns-in-Err-record_tested-clause-stepped c =
    step_refused c.args.w.now _ (room_reaches c.args.room.now) _
    (record_down (view c.args.w.now) _ c.in_default.ensures _ c.in-Err-record_tested.ensures (numbered c.in-Err-record_tested.fault))

pub advance_and_enter-requires : goal.advance_and_enter-requires
advance_and_enter-requires c = call_open (view c.args.w.now) _ c.in_default.ensures c.in_default-record_tested.ensures
