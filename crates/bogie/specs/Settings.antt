-- The settings of a sliding bogie (02, N1): "a lowest last wheelbase, a pitch of at least one tick added for each next setting and 1 to 32 settings".
use Rattle.std.specs.Prelude.{ℕ, zero, suc, ◌+◌, ◌-◌, ◌*◌, Bool, true, ◌&&◌, set, get_or, leb}
use Rattle.job.specs.declared.Unit.{Unit as VehicleUnit}
use Rattle.job.specs.declared.Vehicle.{Vehicle}
use Rattle.job.specs.declared.Job.{Job}
use Rattle.job.specs.Allowed.{between, wheelbase_allowed}
use Rattle.job.specs.Empty.{empty_unit}
use Rattle.bogie.specs.declared.Rail.{Rail}

-- setting i, counted from 0
abbrev pub setting_at : Rail → ℕ → ℕ
setting_at b i = b.lowest + i * b.pitch

-- the last one, where there is one
abbrev pub last_setting : Rail → ℕ
last_setting b = setting_at b (b.number - 1)

-- the first n settings are wheelbases
unfoldable pub settings_allowed : Rail → ℕ → Bool
settings_allowed b zero = true
settings_allowed b (suc i) = settings_allowed b i && wheelbase_allowed (setting_at b i)

-- "it refuses with 29 ... for a pitch, a count or a setting outside the limits"
unfoldable pub rail_allowed : Rail → Bool
rail_allowed b = leb 1 b.pitch && (between 1 32 b.number && settings_allowed b b.number)

-- a unit, a vehicle and a job with another last wheelbase; all else stays
abbrev pub unit_set : VehicleUnit → ℕ → VehicleUnit
unit_set u wheelbase = record { wheelbase = wheelbase; hitch = u.hitch; fold = u.fold; body = u.body }

abbrev pub vehicle_set : Vehicle → ℕ → Vehicle
vehicle_set v wheelbase = record {
  form = v.form;
  count = v.count;
  units = set v.units (v.count - 1) (unit_set (get_or v.units (v.count - 1) empty_unit) wheelbase);
  overhang = v.overhang;
  front_half_width = v.front_half_width;
  rear_half_width = v.rear_half_width;
}

abbrev pub job_set : Job → ℕ → Job
job_set j wheelbase = record { vehicle = vehicle_set j.vehicle wheelbase; start = j.start; step = j.step; count = j.count; elements = j.elements }
