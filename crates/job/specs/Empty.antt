-- "Unused units come back zero and unused elements as straights of length 0" (01, "The job record"), "A short job's
-- body fields come back zero" (02, N3); the empty job has none in use.
use Rattle.std.specs.Prelude.{ℕ, List, map, replicate, take, pos}
use Rattle.std.proofs.lemmas.List.Edits.{sets}
use Rattle.job.specs.declared.Curve.TheVariants.{Straight}
use Rattle.job.specs.declared.Element.{Element}
use Rattle.job.specs.declared.Body.{Body}
use Rattle.job.specs.declared.Form.{Form}
use Rattle.job.specs.declared.Form.TheVariants.{Short, Long}
use Rattle.job.specs.declared.Unit.{Unit as VehicleUnit}
use Rattle.job.specs.declared.Vehicle.{Vehicle}
use Rattle.job.specs.declared.Start.{Start}
use Rattle.job.specs.declared.Job.{Job}

abbrev pub empty_body : Body
empty_body = record { front_overhang = 0; rear_overhang = 0; half_width = 0 }

abbrev pub empty_unit : VehicleUnit
empty_unit = record { wheelbase = 0; hitch = pos 0; fold = pos 0; body = empty_body }

abbrev pub empty_element : Element
empty_element = record { length = 0; curve = Straight }

unfoldable pub empty_units : List VehicleUnit
empty_units = replicate 4 empty_unit

unfoldable pub empty_elements : List Element
empty_elements = replicate 64 empty_element

abbrev pub empty_vehicle : Vehicle
empty_vehicle = record { form = Short; count = 0; units = empty_units; overhang = 0; front_half_width = 0; rear_half_width = 0 }

abbrev pub empty_start : Start
empty_start = record { x = pos 0; y = pos 0; gx = pos 0; gy = pos 0 }

unfoldable pub empty_job : Job
empty_job = record { vehicle = empty_vehicle; start = empty_start; step = 0; count = 0; elements = empty_elements }

-- a unit without the body that a short job does not have
abbrev pub cleared_body : Form → Body → Body
cleared_body Short b = empty_body
cleared_body Long b = b

abbrev pub cleared_unit : Form → VehicleUnit → VehicleUnit
cleared_unit form u = record { wheelbase = u.wheelbase; hitch = u.hitch; fold = u.fold; body = cleared_body form u.body }

abbrev pub cleared_units : Form → ℕ → List VehicleUnit → List VehicleUnit
cleared_units form count us = sets empty_units 0 (map (cleared_unit form) (take count us))

-- a vehicle and a job with their unused entries emptied
abbrev pub cleared_vehicle : Vehicle → Vehicle
cleared_vehicle v = record {
  form = v.form;
  count = v.count;
  units = cleared_units v.form v.count v.units;
  overhang = v.overhang;
  front_half_width = v.front_half_width;
  rear_half_width = v.rear_half_width;
}

abbrev pub cleared : Job → Job
cleared j = record {
  vehicle = cleared_vehicle j.vehicle;
  start = j.start;
  step = j.step;
  count = j.count;
  elements = sets empty_elements 0 (take j.count j.elements);
}
