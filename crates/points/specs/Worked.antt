-- Worked points, which pin the sides, the hitch and the corners (01, "Stations and the widest place"; 02, N3): where the table puts them.
use Rattle.std.specs.Prelude.{ℕ, ◌≡◌, List, [], ◌∷◌, ℤ, pos, negsuc}
use Rattle.plane.specs.declared.Vec2.{Vec2}
use Rattle.job.specs.declared.Body.{Body}
use Rattle.job.specs.declared.Form.{Form}
use Rattle.job.specs.declared.Form.TheVariants.{Short, Long}
use Rattle.job.specs.declared.Unit.{Unit as VehicleUnit}
use Rattle.job.specs.declared.Vehicle.{Vehicle}
use Rattle.points.specs.Points.{rig_points}

abbrev pub vec : ℤ → ℤ → Vec2
vec a b = record { x = a; y = b }

abbrev pub unit : ℕ → ℤ → Body → VehicleUnit
unit l h b = record { wheelbase = l; hitch = h; fold = pos 0; body = b }

abbrev pub body : ℕ → ℕ → ℕ → Body
body front rear half = record { front_overhang = front; rear_overhang = rear; half_width = half }

-- vehicles that are narrower at the rear wheels, by their form, units and old overhang
abbrev pub vehicle : Form → ℕ → List VehicleUnit → ℕ → Vehicle
vehicle f n us over = record { form = f; count = n; units = us; overhang = over; front_half_width = 12000; rear_half_width = 11000 }

-- a single unit as in 01's program run, and a folded rig with its hitch behind the axle; the bodies, which a short job does not have, are not read
abbrev pub single : Vehicle
single = vehicle Short 1 (unit 50000 (pos 0) (body 7 7 7) ∷ []) 10000

abbrev pub double : Vehicle
double = vehicle Short 2 (unit 50000 (negsuc 9999) (body 7 7 7) ∷ unit 80000 (pos 0) (body 7 7 7) ∷ []) 10000

-- the same rig of a long job, which has bodies
abbrev pub bodied : Vehicle
bodied = vehicle Long 2 (unit 50000 (negsuc 9999) (body 9000 3000 12500) ∷ unit 80000 (pos 0) (body 2000 20000 13000) ∷ []) 0

-- the first unit due north, the second due east
abbrev pub folded : List Vec2
folded = vec (pos 0) (pos 50000) ∷ vec (pos 80000) (pos 0) ∷ []

-- four units of a long job, hitched at their rear axles, each with its own measures
abbrev pub fourfold : Vehicle
fourfold =
    vehicle Long 4
    (unit 50000 (pos 0) (body 9000 1000 12500) ∷ unit 60000 (pos 0) (body 2000 6000 13000) ∷ unit 70000 (pos 0) (body 3000 7000 13500) ∷ unit 80000 (pos 0) (body 4000 8000 14500) ∷ []) 0

-- each square to the one ahead: north, east, south and west
abbrev pub squared : List Vec2
squared = vec (pos 0) (pos 50000) ∷ vec (pos 60000) (pos 0) ∷ vec (pos 0) (negsuc 69999) ∷ vec (negsuc 79999) (pos 0) ∷ []

-- the claim
pub record WorkedPoints : Type 0 where
  -- due north, the front axle at (0, 65000), the rear axle 50,000 behind it: left is west
  pub north : rig_points single (vec (pos 0) (pos 50000) ∷ []) (vec (pos 0) (pos 65000))
      ≡ vec (negsuc 11999) (pos 75000) ∷ vec (pos 12000) (pos 75000)
      ∷ vec (negsuc 11999) (pos 65000) ∷ vec (pos 12000) (pos 65000)
      ∷ vec (negsuc 10999) (pos 15000) ∷ vec (pos 11000) (pos 15000)
      ∷ vec (negsuc 10999) (pos 15000) ∷ vec (pos 11000) (pos 15000) ∷ []
  -- due east, the front axle at (65000, 0): left is north
  pub east : rig_points single (vec (pos 50000) (pos 0) ∷ []) (vec (pos 65000) (pos 0))
      ≡ vec (pos 75000) (pos 12000) ∷ vec (pos 75000) (negsuc 11999)
      ∷ vec (pos 65000) (pos 12000) ∷ vec (pos 65000) (negsuc 11999)
      ∷ vec (pos 15000) (pos 11000) ∷ vec (pos 15000) (negsuc 10999)
      ∷ vec (pos 15000) (pos 11000) ∷ vec (pos 15000) (negsuc 10999) ∷ []
  -- the first unit's hitch lies 10,000 behind its rear axle, at (0, −60000), the second's rear axle at (−80000, −60000)
  pub short : rig_points double folded (vec (pos 0) (pos 0))
      ≡ vec (negsuc 11999) (pos 10000) ∷ vec (pos 12000) (pos 10000)
      ∷ vec (negsuc 11999) (pos 0) ∷ vec (pos 12000) (pos 0)
      ∷ vec (negsuc 79999) (negsuc 48999) ∷ vec (negsuc 79999) (negsuc 70999)
      ∷ vec (negsuc 10999) (negsuc 49999) ∷ vec (pos 11000) (negsuc 49999)
      ∷ vec (pos 0) (negsuc 48999) ∷ vec (pos 0) (negsuc 70999)
      ∷ vec (negsuc 79999) (negsuc 48999) ∷ vec (negsuc 79999) (negsuc 70999) ∷ []
  -- with bodies: the first's 9,000 ahead of its front point and 3,000 behind its rear axle, the second's 2,000 and 20,000
  pub long : rig_points bodied folded (vec (pos 0) (pos 0))
      ≡ vec (negsuc 12499) (pos 9000) ∷ vec (pos 12500) (pos 9000)
      ∷ vec (negsuc 11999) (pos 0) ∷ vec (pos 12000) (pos 0)
      ∷ vec (negsuc 79999) (negsuc 48999) ∷ vec (negsuc 79999) (negsuc 70999)
      ∷ vec (negsuc 12499) (negsuc 52999) ∷ vec (pos 12500) (negsuc 52999)
      ∷ vec (pos 2000) (negsuc 46999) ∷ vec (pos 2000) (negsuc 72999)
      ∷ vec (negsuc 99999) (negsuc 46999) ∷ vec (negsuc 99999) (negsuc 72999) ∷ []
  -- all 20 points: the rear axles lie at (0, −50000), (−60000, −50000), (−60000, 20000) and (20000, 20000)
  pub four : rig_points fourfold squared (vec (pos 0) (pos 0))
      ≡ vec (negsuc 12499) (pos 9000) ∷ vec (pos 12500) (pos 9000)
      ∷ vec (negsuc 11999) (pos 0) ∷ vec (pos 12000) (pos 0)
      ∷ vec (pos 20000) (pos 9000) ∷ vec (pos 20000) (pos 31000)
      ∷ vec (negsuc 12499) (negsuc 50999) ∷ vec (pos 12500) (negsuc 50999)
      ∷ vec (pos 2000) (negsuc 36999) ∷ vec (pos 2000) (negsuc 62999)
      ∷ vec (negsuc 65999) (negsuc 36999) ∷ vec (negsuc 65999) (negsuc 62999)
      ∷ vec (negsuc 46499) (negsuc 52999) ∷ vec (negsuc 73499) (negsuc 52999)
      ∷ vec (negsuc 46499) (pos 27000) ∷ vec (negsuc 73499) (pos 27000)
      ∷ vec (negsuc 63999) (pos 5500) ∷ vec (negsuc 63999) (pos 34500)
      ∷ vec (pos 28000) (pos 5500) ∷ vec (pos 28000) (pos 34500) ∷ []
