-- The lists that the three lent runs of stations hold, and runs that stay the same loans.
use Rattle.std.specs.Prelude.{◌≡◌}
use Rattle.reaches.specs.declared.ReachRoom.{ReachRoom}
use Rattle.reaches.specs.declared.Reached.{Reached}
use Rattle.reaches.specs.Cells.{Reaches, reach_runs}

abbrev pub room_reaches : ReachRoom → Reaches
room_reaches r = reach_runs r.left.now r.right.now r.marks.now

abbrev pub reached_of : Reached → Reaches
reached_of r = reach_runs r.left.now r.right.now r.marks.now

-- what is written afterwards is written into the caller's runs
pub record SameLoans (before after : ReachRoom) : Type 0 where
  pub left : after.left.ghost_name ≡ before.left.ghost_name
  pub right : after.right.ghost_name ≡ before.right.ghost_name
  pub marks : after.marks.ghost_name ≡ before.marks.ghost_name
