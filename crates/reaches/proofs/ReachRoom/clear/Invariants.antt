-- `reaches::ReachRoom::clear` meets its contract: the stations so far are cleared.
use mathlib.Core.Path.{◌≡◌}
use Rattle.reaches.specs.Cells.{cleared}
use Rattle.reaches.specs.Lent.{room_reaches, SameLoans}
use Rattle.reaches.proofs.ReachRoom.clear.Given as goal

abbrev pub invariant-loop-at : goal.invariant-loop-at
invariant-loop-at l = record {
  loans : SameLoans l.initial.self l.self;
  cleared : room_reaches l.self ≡ cleared l.at (room_reaches l.initial.self);
}
