-- What the tests of a walk that are no entries ask of their callers.
use Rattle.std.specs.Prelude.{ℕ, ◌<◌, ◌≡◌, true, length}
use Rattle.job.specs.declared.Vehicle.{Vehicle}
use Rattle.path.specs.Laying.{PathRuns, room_for}
use Rattle.walk.specs.Tests.{vehicle_sound}

-- station i lies inside each of the four runs
pub record StationLent (i : ℕ) (p : PathRuns) : Type 0 where
  pub xs : i < length p.xs
  pub ys : i < length p.ys
  pub gxs : i < length p.gxs
  pub gys : i < length p.gys

-- each of the four runs has the stations asked for
pub record PathLent (asked : ℕ) (p : PathRuns) : Type 0 where
  pub room : room_for asked p ≡ true

-- a vehicle that passed its own test
pub record VehicleTested (v : Vehicle) : Type 0 where
  pub sound : vehicle_sound v ≡ true
