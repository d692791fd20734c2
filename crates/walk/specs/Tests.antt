-- The tests of a walk (01, "Why a walk is turned down").
use Rattle.std.specs.Prelude.{ℕ, zero, suc, ◌+◌, Bool, true, false, ◌&&◌, List, [], ◌∷◌, leb, ltb, eqb, take, pos, nat_abs}
use Rattle.number.specs.Field.{size_at_most}
use Rattle.plane.specs.declared.Vec2.{Vec2}
use Rattle.plane.specs.Length.{heading_length, has_length}
use Rattle.job.specs.declared.Unit.{Unit as VehicleUnit}
use Rattle.job.specs.declared.Vehicle.{Vehicle}
use Rattle.job.specs.Allowed.{between}
use Rattle.job.specs.Faults.{vehicle_fault}
use Rattle.path.specs.declared.Station.{Station}
use Rattle.path.specs.Laying.{PathRuns, room_for}
use Rattle.walk.specs.Drawn.{Drawn, Lengths, Call, station_at}

-- 21: "stations asked for not 1 to 2,001, or a lent run shorter than that"; the path's four runs, and the other three
abbrev pub path_lent : ℕ → PathRuns → Bool
path_lent asked p = between 1 2001 asked && room_for asked p

abbrev pub reaches_lent : ℕ → Lengths → Bool
reaches_lent asked l = leb asked l.left && (leb asked l.right && leb asked l.marks)

unfoldable pub lent : Call → Bool
lent c = path_lent c.asked c.path && reaches_lent c.asked c.reaches

-- 26: "a path entry in use has a coordinate beyond ±150,000,000, or a heading whose gx² + gy² is off N² by more than 2N"
unfoldable pub station_sound : Station → Bool
station_sound s = size_at_most 150000000 s.position.x && (size_at_most 150000000 s.position.y && has_length s.heading heading_length)

unfoldable pub path_sound : ℕ → PathRuns → Bool
path_sound zero p = true
path_sound (suc n) p = path_sound n p && station_sound (station_at p n)

-- 27: "a number of units or a measure out of the job's range, a station beyond the last, an unused vector not zero, or a used |d|² off L² by more than 2L"
unfoldable pub vehicle_sound : Vehicle → Bool
vehicle_sound v = eqb (vehicle_fault v) 0

abbrev pub is_zero : Vec2 → Bool
is_zero d = eqb (nat_abs d.x) 0 && eqb (nat_abs d.y) 0

-- a vector against the first of the units that are left: it has that unit's length, or is zero where no unit is left
unfoldable pub vector_sound : List VehicleUnit → Vec2 → Bool
vector_sound [] d = is_zero d
vector_sound (u ∷ us) d = has_length d (pos u.wheelbase)

-- the vectors against the units in use: a vector for each, and none but zero beyond them
unfoldable pub vectors_sound : List VehicleUnit → List Vec2 → Bool
vectors_sound [] [] = true
vectors_sound [] (d ∷ ds) = vector_sound [] d && vectors_sound [] ds
vectors_sound (u ∷ us) [] = false
vectors_sound (u ∷ us) (d ∷ ds) = vector_sound (u ∷ us) d && vectors_sound us ds

abbrev pub units_in_use : Vehicle → List VehicleUnit
units_in_use v = take v.count v.units

unfoldable pub record_sound : ℕ → Drawn → Bool
record_sound asked s = vehicle_sound s.vehicle && (ltb s.station asked && vectors_sound (units_in_use s.vehicle) s.vectors)

-- 25: "the last station is already reached"
unfoldable pub at_last : ℕ → Drawn → Bool
at_last asked s = leb asked (s.station + 1)
