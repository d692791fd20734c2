-- The job record, field by field in the order of the table of 01, "The job record"; the numbers are those of 01, "Why a job is turned down".
-- A long job has "the body's three fields after each fold limit and the old width fields kept" (02, N3).
use Rattle.std.specs.Prelude.{ℕ, ◌+◌, List, [], Bool, length, eqb}
use Rattle.number.specs.Read.{Read, got, refused, Reader, pick, ◌>>=◌, return, here, unless, many, into}
use Rattle.number.specs.Field.{field, signed_number, signed_field}
use Rattle.job.specs.Allowed.{wheelbase_allowed, hitch_allowed, fold_allowed, overhang_allowed, old_overhang_allowed, half_width_allowed, coordinate_allowed, heading_allowed, step_allowed, element_count_allowed, length_allowed}
use Rattle.job.specs.Announced.{announces, announced_form, announced_count}
use Rattle.job.specs.Curves.{curve_of, radius_allowed}
use Rattle.job.specs.Steps.{tally, steps_allowed}
use Rattle.job.specs.Empty.{empty_body, empty_units, empty_elements}
use Rattle.job.specs.declared.Body.{Body}
use Rattle.job.specs.declared.Form.{Form}
use Rattle.job.specs.declared.Form.TheVariants.{Short, Long}
use Rattle.job.specs.declared.Unit.{Unit as VehicleUnit}
use Rattle.job.specs.declared.Vehicle.{Vehicle}
use Rattle.job.specs.declared.Start.{Start}
use Rattle.job.specs.declared.Element.{Element}
use Rattle.job.specs.declared.Job.{Job}

unfoldable pub read_body : Reader Body
read_body = do
  front ← field 5 overhang_allowed
  rear ← field 5 overhang_allowed
  side ← field 5 half_width_allowed
  return (record { front_overhang = front; rear_overhang = rear; half_width = side })

-- "A short job's body fields come back zero"
abbrev pub read_body_of : Form → Reader Body
read_body_of Short = return empty_body
read_body_of Long = read_body

unfoldable pub read_unit : Form → Bool → Bool → Reader VehicleUnit
read_unit form first last = do
  wheelbase ← field 4 wheelbase_allowed
  hitch ← signed_field 4 (hitch_allowed last wheelbase)
  fold ← signed_field 4 (fold_allowed first)
  body ← read_body_of form
  return (record { wheelbase = wheelbase; hitch = hitch; fold = fold; body = body })

-- the unit with index i of so many
abbrev pub read_unit_at : Form → ℕ → ℕ → Reader VehicleUnit
read_unit_at form count i = read_unit form (eqb i 0) (eqb (i + 1) count)

-- the rest of the 4 are zero
unfoldable pub read_units : Form → ℕ → Reader (List VehicleUnit)
read_units form count s at = into empty_units 0 (many (read_unit_at form count) (λ i u. i + 1) (λ i. return []) count 0 s at)

-- "The overhang and widths stand once, after all units"
unfoldable pub read_widths : Form → ℕ → List VehicleUnit → Reader Vehicle
read_widths form count units = do
  overhang ← field 5 (old_overhang_allowed form)
  front ← field 5 half_width_allowed
  rear ← field 5 half_width_allowed
  return (record { form = form; count = count; units = units; overhang = overhang; front_half_width = front; rear_half_width = rear })

unfoldable pub read_vehicle : Reader Vehicle
read_vehicle = do
  n ← field 3 announces
  units ← read_units (announced_form n) (announced_count n)
  read_widths (announced_form n) (announced_count n) units

-- "a wrong heading is tested after gy, placed at gx"
unfoldable pub read_start : Reader Start
read_start = do
  x ← signed_field 6 coordinate_allowed
  y ← signed_field 6 coordinate_allowed
  at ← here
  gx ← signed_number
  gy ← signed_number
  unless (heading_allowed gx gy) 6 at (return (record { x = x; y = y; gx = gx; gy = gy }))

unfoldable pub read_element : Reader Element
read_element = do
  length ← field 8 length_allowed
  radius ← signed_field 8 radius_allowed
  return (record { length = length; curve = curve_of radius })

-- the running total of steps is "tested after all elements, placed at their number"; the rest of the 64 are straights of length 0
abbrev pub read_total : ℕ → ℕ → Reader (List Element)
read_total place total = unless (steps_allowed total) 9 place (return [])

unfoldable pub read_elements : ℕ → ℕ → ℕ → Reader (List Element)
read_elements step place count s at = into empty_elements 0 (many (λ total. read_element) (tally step) (read_total place) count 0 s at)

unfoldable pub read_path : Vehicle → Start → Reader Job
read_path vehicle start = do
  step ← field 7 step_allowed
  at ← here
  count ← field 8 element_count_allowed
  elements ← read_elements step at count
  return (record { vehicle = vehicle; start = start; step = step; count = count; elements = elements })

unfoldable pub read_record : Reader Job
read_record = do
  vehicle ← read_vehicle
  start ← read_start
  read_path vehicle start

-- "bytes left over, placed at the first"
abbrev pub read_end : Job → Reader Job
read_end j s at = pick (eqb at (length s)) (got j at) (refused 10 at)

unfoldable pub read_job : List ℕ → Read Job
read_job s = (read_record >>= read_end) s 0
