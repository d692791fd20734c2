-- The lists that lent runs hold, and runs that stay the same loans.
use Rattle.std.specs.Prelude.{◌≡◌}
use Rattle.path.specs.Laying.{PathRuns, path_runs}
use Rattle.path.specs.declared.Path.{Path}
use Rattle.path.specs.declared.PathRoom.{PathRoom}

abbrev pub path_of : Path → PathRuns
path_of p = path_runs p.xs.now p.ys.now p.gxs.now p.gys.now

abbrev pub room_runs : PathRoom → PathRuns
room_runs p = path_runs p.xs.now p.ys.now p.gxs.now p.gys.now

-- what is written afterwards is written into the caller's runs
pub record SameLoans (before after : PathRoom) : Type 0 where
  pub xs : after.xs.ghost_name ≡ before.xs.ghost_name
  pub ys : after.ys.ghost_name ≡ before.ys.ghost_name
  pub gxs : after.gxs.ghost_name ≡ before.gxs.ghost_name
  pub gys : after.gys.ghost_name ≡ before.gys.ghost_name
