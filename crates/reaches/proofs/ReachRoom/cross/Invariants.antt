-- `reaches::ReachRoom::cross` meets its contract: after i turns the first i stations are crossed.
use mathlib.Core.Path.{◌≡◌}
use Rattle.path.specs.Lent.{path_of}
use Rattle.reaches.specs.Crossing.{crossed}
use Rattle.reaches.specs.Lent.{room_reaches, SameLoans}
use Rattle.reaches.proofs.ReachRoom.cross.Given as goal

abbrev pub invariant-loop-i : goal.invariant-loop-i
invariant-loop-i l = record {
  loans : SameLoans l.initial.self l.self;
  crossed : room_reaches l.self ≡ crossed l.i (path_of l.path) l.olds l.news (room_reaches l.initial.self);
}
