-- `bogie::walk_settings` meets its contract: after each turn the list and the runs are those of the settings walked so far.
use mathlib.Core.Path.{◌≡◌}
use Rattle.path.specs.Lent.{path_of}
use Rattle.reaches.specs.Lent.{room_reaches, SameLoans}
use Rattle.ranking.specs.Ranking.{so_far, ranked, listed_of}
use Rattle.bogie.specs.Settings.{setting_at}
use Rattle.bogie.specs.Fitting.{fitting}
use Rattle.bogie.specs.Walks.{over_at, runs_after}
use Rattle.bogie.proofs.walk_settings.Given as goal

abbrev pub invariant-loop-i : goal.invariant-loop-i
invariant-loop-i l = record {
  loans : SameLoans l.initial.room l.room;
  runs : room_reaches l.room ≡ runs_after l.asked (path_of l.path) l.v l.rail (room_reaches l.initial.room) l.i;
  listed : so_far l.listed ≡ listed_of (ranked (fitting (over_at l.asked (path_of l.path) l.v (room_reaches l.initial.room)) (setting_at l.rail) l.i));
}
