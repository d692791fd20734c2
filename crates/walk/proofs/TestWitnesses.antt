-- What the tests of a walk ask can be met, at the ends of the ranges too. Assumes nothing.
use mathlib.Core.Path.{refl}
use mathlib.Core.List.{[], ◌∷◌}
use Prim.Native.Nat.{ℕ}
use lib.Dec.{lit<}
use lib.IntN.{ℤ, pos, negsuc}
use Rattle.job.specs.declared.Body.{Body}
use Rattle.job.specs.declared.Form.TheVariants.{Long}
use Rattle.job.specs.declared.Unit.{Unit as VehicleUnit}
use Rattle.job.specs.declared.Vehicle.{Vehicle}
use Rattle.job.specs.Faults.{fault_of, units_fault, vehicle_fault}
use Rattle.path.specs.Laying.{PathRuns, path_runs}
use Rattle.walk.specs.Tests.{vehicle_sound}
use Rattle.walk.specs.TestRequires.{StationLent, PathLent, VehicleTested}

-- a path of one station
abbrev one_station : PathRuns
one_station = path_runs (pos 150000000 ∷ []) (negsuc 149999999 ∷ []) (pos 0 ∷ []) (pos 1000000 ∷ [])

station_met : StationLent 0 one_station
station_met = record { xs = lit< tt; ys = lit< tt; gxs = lit< tt; gys = lit< tt }

path_met : PathLent 1 one_station
path_met = record { room = refl }

-- a body of the greatest overhangs, and narrow
abbrev body : Body
body = record { front_overhang = 50000; rear_overhang = 50000; half_width = 1000 }

abbrev unit : ℕ → ℤ → ℤ → VehicleUnit
unit wheelbase hitch fold = record { wheelbase = wheelbase; hitch = hitch; fold = fold; body = body }

-- a long job: the shortest unit, the longest, hitches ahead of and behind the axle, and the last without one
abbrev pub four_units : Vehicle
four_units = record {
  form = Long;
  count = 4;
  units = unit 5000 (pos 5000) (pos 0) ∷ unit 200000 (negsuc 199999) (negsuc 999) ∷ unit 5000 (pos 0) (pos 990) ∷ unit 200000 (pos 0) (pos 0) ∷ [];
  overhang = 0;
  front_half_width = 1000;
  rear_half_width = 20000;
}

pub vehicle_met : VehicleTested four_units
unfolding vehicle_sound vehicle_fault units_fault fault_of
vehicle_met = record { sound = refl }
