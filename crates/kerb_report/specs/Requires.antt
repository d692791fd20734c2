-- What the functions of this crate that are no entries require of their callers.
use Rattle.std.specs.Prelude.{ℕ, ◌+◌, ◌≡◌, true}
use Rattle.path.specs.Laying.{PathRuns}
use Rattle.walk.specs.declared.Walk.{Walk}
use Rattle.walk.specs.Drawn.{Drawn, station_at}
use Rattle.walk.specs.Tests.{path_lent, path_sound, record_sound}
use Rattle.walk.specs.TestRequires.{StationLent}
use Rattle.walk.specs.Moving.{AdvanceReady}
use Rattle.points.specs.Requires.{RigAt}
use Rattle.kerb_line.specs.Kerb.{KerbRuns, kerb_lent, kerb_sound}

-- a call that passed 21, 26 and 27
pub record Ahead (s : Drawn) (asked : ℕ) (p : PathRuns) (n : ℕ) (k : KerbRuns) : Type 0 where
  pub path : path_lent asked p ≡ true
  pub kerb : kerb_lent n k ≡ true
  pub stations : path_sound asked p ≡ true
  pub vertices : kerb_sound n k ≡ true
  pub rig : record_sound asked s ≡ true

-- a walk with a station to go to
pub record Steppable (w : Walk) (path : PathRuns) : Type 0 where
  pub from : StationLent w.station path
  pub to : StationLent (w.station + 1) path
  pub ready : AdvanceReady w (station_at path w.station).position (station_at path (w.station + 1)).position

-- a walk whose points can be placed where it stands
pub record OnPath (w : Walk) (path : PathRuns) : Type 0 where
  pub station : StationLent w.station path
  pub rig : RigAt w.vehicle w.d (station_at path w.station).position
