-- How many points the rig of a vehicle has (01, "Stations and the widest place"; 02, N3), and how many there is room for.
use Rattle.std.specs.Prelude.{ℕ, ◌+◌, ◌*◌}
use Rattle.job.specs.declared.Vehicle.{Vehicle}

-- each unit's four corners; and points 2 to 5, at the wheels
unfoldable pub point_count : Vehicle → ℕ
point_count v = 4 * v.count + 4

-- those of four units
abbrev pub point_capacity : ℕ
point_capacity = 20
