-- `swept::sweep_into` meets its contract, by how the bytes read.
use Rattle.path.specs.Lent.{room_runs}
use Rattle.reaches.specs.Lent.{room_reaches}
use Rattle.swept.proofs.SweptLaws.{refused_tells, accepted_tells}
use Rattle.swept.proofs.sweep_into.Goals as goal

pub returns-in-Ok-clause-swept : goal.returns-in-Ok-clause-swept
returns-in-Ok-clause-swept c =
    accepted_tells c.args.bytes.now (room_runs c.args.path_room.now) (room_reaches c.args.room.now) c.in-Ok.job c.in-Ok.ensures
    c.run.result _ _ c.run.ensures.ran c.map_err.result c.map_err.ensures.cases

pub returns-in-Err-clause-swept : goal.returns-in-Err-clause-swept
returns-in-Err-clause-swept c = refused_tells c.args.bytes.now (room_runs c.args.path_room.now) (room_reaches c.args.room.now) c.in-Err.refusal c.in-Err.ensures
