-- `run::finished` meets its contract.
use Rattle.marks.proofs.CountLaws.{count_fits, bits_fit}
use Rattle.path.specs.Lent.{path_of}
use Rattle.walk.proofs.PathTests.{station_lent}
use Rattle.walk.proofs.RecordTests.{lent_call}
use Rattle.reaches.specs.Lent.{reached_of}
use Rattle.stations.proofs.Entering.{room_of}
use Rattle.run.proofs.finished.Goals as goal

pub widest_among-requires : goal.widest_among-requires
widest_among-requires c =
    record {
      bits = bits_fit (record { most = rw c.point_count.ensures (count_fits c.args.v c.requires.units) });
      room = room_of c.args.asked (path_of c.args.path) (reached_of c.args.runs) c.requires.lent;
    }

pub station_at-requires : goal.station_at-requires
station_at-requires c = station_lent (path_of c.args.path) c.args.asked c.args.station (lent_call _ c.requires.lent).0.room c.requires.station
