-- The rigs, paths and calls that the rows are asked of.
use Rattle.std.specs.Prelude.{ℕ, List, [], ◌∷◌, map, length, replicate, ℤ, pos}
use Rattle.std.proofs.lemmas.List.Edits.{sets}
use Rattle.plane.specs.declared.Vec2.{Vec2}
use Rattle.job.specs.declared.Form.TheVariants.{Short, Long}
use Rattle.job.specs.declared.Unit.{Unit as VehicleUnit}
use Rattle.job.specs.declared.Vehicle.{Vehicle}
use Rattle.job.specs.declared.Element.{Element}
use Rattle.job.specs.declared.Curve.TheVariants.{Straight, Arc}
use Rattle.job.specs.declared.Side.TheVariants.{Left, Right}
use Rattle.job.specs.declared.Job.{Job}
use Rattle.job.specs.Empty.{empty_body, empty_units}
use Rattle.path.specs.declared.Station.{Station}
use Rattle.path.specs.Laying.{PathRuns, path_runs}
use Rattle.walk.specs.Drawn.{Drawn, Call}
use Rattle.walk.specs.Rig.{zero_vector}
use Rattle.worked.specs.Rows.{neg, vec}

abbrev pub unit : ℕ → ℤ → ℤ → VehicleUnit
unit wheelbase hitch fold = record { wheelbase = wheelbase; hitch = hitch; fold = fold; body = empty_body }

-- the units of a vehicle, its overhang and its half widths at the front and at the rear
abbrev pub vehicle : List VehicleUnit → ℕ → ℕ → ℕ → Vehicle
vehicle us overhang front rear = record {
  form = Short;
  count = length us;
  units = sets empty_units 0 us;
  overhang = overhang;
  front_half_width = front;
  rear_half_width = rear;
}

-- the same where the overhang and the widths do not matter
abbrev pub vehicle_of : List VehicleUnit → Vehicle
vehicle_of us = vehicle us 1000 2000 1500

-- the shortest single unit, and the same with a hitch, which the last unit may not have
abbrev pub single : Vehicle
single = vehicle_of (unit 5000 (pos 0) (pos 0) ∷ [])

abbrev pub hitched_last : Vehicle
hitched_last = vehicle_of (unit 5000 (pos 1) (pos 0) ∷ [])

-- a unit of the shortest wheelbase with a body, by its hitch and the body's half width
abbrev pub bodied : ℤ → ℕ → VehicleUnit
bodied hitch half = record { wheelbase = 5000; hitch = hitch; fold = pos 0; body = record { front_overhang = 1000; rear_overhang = 2000; half_width = half } }

-- a long vehicle by its count, its units and its old overhang
abbrev pub long_vehicle : ℕ → List VehicleUnit → ℕ → Vehicle
long_vehicle count us overhang = record {
  form = Long;
  count = count;
  units = sets empty_units 0 us;
  overhang = overhang;
  front_half_width = 2000;
  rear_half_width = 1500;
}

-- the bytes of a record from its front half width on: widths 2,000 and 1,500, from the origin due north in steps of 100, one straight of 200,000
abbrev pub after_overhang : List ℕ
after_overhang = 0xD0 ∷ 0x0F ∷ 0xDC ∷ 0x0B ∷ 0x00 ∷ 0x00 ∷ 0x00 ∷ 0x80 ∷ 0x89 ∷ 0x7A ∷ 0x64 ∷ 0x01 ∷ 0xC0 ∷ 0x9A ∷ 0x0C ∷ 0x00 ∷ []

abbrev pub vectors : List Vec2 → List Vec2
vectors ds = sets (replicate 4 zero_vector) 0 ds

-- a vehicle at a station, with the vectors of its units
abbrev pub rig : Vehicle → ℕ → List Vec2 → Drawn
rig v k ds = record { vehicle = v; station = k; vectors = vectors ds }

-- the single unit due north at a station
abbrev pub single_at : ℕ → Drawn
single_at k = rig single k (vec (pos 0) (pos 5000) ∷ [])

abbrev pub station : Vec2 → Vec2 → Station
station p g = record { position = p; heading = g }

-- a path due north by its stations' Y
abbrev pub north : List ℤ → PathRuns
north ys = path_runs (map (λ (y : ℤ). pos 0) ys) ys (map (λ (y : ℤ). pos 0) ys) (map (λ (y : ℤ). pos 1000000) ys)

-- a call that asks for n stations of a path and lends three more runs of that length
abbrev pub call : ℕ → PathRuns → Call
call n p = record { asked = n; path = p; reaches = record { left = n; right = n; marks = n } }

-- the same with a run of marks of another length
abbrev pub call_marks : ℕ → ℕ → PathRuns → Call
call_marks n marks p = record { asked = n; path = p; reaches = record { left = n; right = n; marks = marks } }

abbrev pub straight : ℕ → Element
straight n = record { length = n; curve = Straight }

abbrev pub right_bend : ℕ → ℕ → Element
right_bend n r = record { length = n; curve = Arc Right r }

abbrev pub left_bend : ℕ → ℕ → Element
left_bend n r = record { length = n; curve = Arc Left r }

-- a job from the origin due north, in steps of 100
abbrev pub job : Vehicle → List Element → Job
job v es = record { vehicle = v; start = record { x = pos 0; y = pos 0; gx = pos 0; gy = pos 1000000 }; step = 100; count = length es; elements = es }

-- a straight due north of three stations, and the same with its last station too far off
abbrev pub three_stations : PathRuns
three_stations = north (pos 0 ∷ pos 4000 ∷ pos 8000 ∷ [])

abbrev pub too_far_north : PathRuns
too_far_north = north (pos 0 ∷ pos 4000 ∷ pos 150000001 ∷ [])

-- two stations of one place: a rig that takes this step stands still
abbrev pub standing : Call
standing = call 2 (north (pos 0 ∷ pos 0 ∷ []))

-- three units of one wheelbase, the second and the third with their fold limits, and the two ways in which one of them stands square to the unit ahead
abbrev pub three_units : ℤ → ℤ → List Vec2 → Drawn
three_units second third ds = rig (vehicle_of (unit 50000 (pos 0) (pos 0) ∷ unit 50000 (pos 0) second ∷ unit 50000 (pos 0) third ∷ [])) 0 ds

abbrev pub third_square : List Vec2
third_square = vec (pos 0) (pos 50000) ∷ vec (pos 0) (pos 50000) ∷ vec (pos 50000) (pos 0) ∷ []

abbrev pub second_square : List Vec2
second_square = vec (pos 0) (pos 50000) ∷ vec (pos 50000) (pos 0) ∷ vec (pos 50000) (pos 0) ∷ []

-- two units of different wheelbases, at an angle whose cosine is 0.6
abbrev pub slanted : ℤ → Drawn
slanted limit = rig (vehicle_of (unit 50000 (pos 0) (pos 0) ∷ unit 80000 (pos 0) limit ∷ [])) 0 (vec (pos 0) (pos 50000) ∷ vec (pos 64000) (pos 48000) ∷ [])

-- a tractor and its trailer in line due north, by the tractor's hitch, and a step to the right
abbrev pub trailer_behind : ℤ → Drawn
trailer_behind hitch = rig (vehicle_of (unit 50000 hitch (pos 0) ∷ unit 80000 (pos 0) (pos 0) ∷ [])) 0 (vec (pos 0) (pos 50000) ∷ vec (pos 0) (pos 80000) ∷ [])

abbrev pub aside : Call
aside = call 2 (path_runs (pos 0 ∷ pos 30000 ∷ []) (pos 0 ∷ neg 10000 ∷ []) (pos 0 ∷ pos 0 ∷ []) (pos 1000000 ∷ pos 1000000 ∷ []))

-- a short second unit, turned back against the first
abbrev pub short_turned_back : Drawn
short_turned_back = rig (vehicle_of (unit 50000 (pos 0) (pos 0) ∷ unit 5000 (pos 0) (pos 990) ∷ [])) 0 (vec (pos 0) (pos 50000) ∷ vec (pos 0) (neg 5000) ∷ [])

-- a second unit turned back against the first, and a short third in line with it
abbrev pub short_third : ℤ → Drawn
short_third limit =
    rig (vehicle_of (unit 50000 (pos 0) (pos 0) ∷ unit 50000 (pos 0) limit ∷ unit 5000 (pos 0) (neg 1000) ∷ [])) 0
    (vec (pos 0) (pos 50000) ∷ vec (pos 0) (neg 50000) ∷ vec (pos 0) (neg 5000) ∷ [])

-- the single unit at the last of three stations, with an unused vector that is not zero
abbrev pub unused_vector : Drawn
unused_vector = rig single 2 (vec (pos 0) (pos 5000) ∷ vec (pos 0) (pos 1) ∷ [])
