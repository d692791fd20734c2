-- `offered::list_into` meets its contract, by how the bytes read.
use Rattle.path.specs.Lent.{room_runs}
use Rattle.reaches.specs.Lent.{room_reaches}
use Rattle.offered.proofs.OfferedLaws.{refused_offers, accepted_offers}
use Rattle.offered.proofs.list_into.Goals as goal

pub returns-in-Ok-clause-listed : goal.returns-in-Ok-clause-listed
returns-in-Ok-clause-listed c =
    accepted_offers c.args.bytes.now c.args.rail (room_runs c.args.path_room.now) (room_reaches c.args.room.now) c.in-Ok.job c.in-Ok.ensures
    c.list_settings.result _ _ c.list_settings.ensures.listed c.map_err.result c.map_err.ensures.cases

pub returns-in-Err-clause-listed : goal.returns-in-Err-clause-listed
returns-in-Err-clause-listed c = refused_offers c.args.bytes.now c.args.rail (room_runs c.args.path_room.now) (room_reaches c.args.room.now) c.in-Err.refusal c.in-Err.ensures
