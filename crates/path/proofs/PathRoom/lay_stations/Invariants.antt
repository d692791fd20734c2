-- `path::PathRoom::lay_stations` meets its contract.
use Rattle.path.specs.Stations.{steps_on, stations_from}
use Rattle.path.specs.Lent.{room_runs, SameLoans}
use Rattle.path.proofs.LayLaws.{written_at, Laying}
use Rattle.path.proofs.PathRoom.lay_stations.Given as goal

abbrev pub invariant-loop-i : goal.invariant-loop-i
invariant-loop-i l = record {
  loans : SameLoans l.initial.self l.self;
  laying : Laying l.step l.steps l.elements
      (written_at 1 (stations_from l.initial.c.station (steps_on l.step l.elements)) (room_runs l.initial.self))
      (room_runs l.initial.self) l.c l.i (room_runs l.self);
}
