-- `run::walk_on` meets its contract: at each turn the walk from here to the end is the walk from the start to the end.
use Prim.Native.Nat.{◌+◌}
use mathlib.Core.Path.{◌≡◌}
use Rattle.path.specs.Lent.{path_of}
use Rattle.walk.specs.Drawn.{view}
use Rattle.reaches.specs.Lent.{room_reaches, SameLoans}
use Rattle.stations.specs.Placing.{call_of}
use Rattle.run.specs.Walking.{walk_to_end, Going}
use Rattle.run.proofs.walk_on.Given as goal

abbrev pub invariant-loop : goal.invariant-loop
invariant-loop l = record {
  loans : SameLoans l.initial.room l.room;
  going : Going (view l.w) (call_of l.asked (path_of l.path) (room_reaches l.room));
  reached : l.w.station + 1 ≡ l.counter;
  same : walk_to_end l.asked (path_of l.path) (view l.w) (room_reaches l.room) ≡ walk_to_end l.asked (path_of l.path) (view l.initial.w) (room_reaches l.initial.room);
}
