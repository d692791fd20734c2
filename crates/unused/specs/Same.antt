-- Vehicles, jobs and rigs that agree on everything but unused entries: units and elements past their number in use (01, "The job record"), and a short
-- job's bodies, which "are never read" (02, N3).
use Rattle.std.specs.Prelude.{◌≡◌, List, map, take}
use Rattle.job.specs.Empty.{cleared_unit}
use Rattle.job.specs.declared.Unit.{Unit as VehicleUnit}
use Rattle.job.specs.declared.Vehicle.{Vehicle}
use Rattle.job.specs.declared.Job.{Job}
use Rattle.walk.specs.Drawn.{Drawn}

-- the units in use, in a short job without their bodies
abbrev pub units_read : Vehicle → List VehicleUnit
units_read v = map (cleared_unit v.form) (take v.count v.units)

pub record SameVehicle (v u : Vehicle) : Type 0 where
  pub form : v.form ≡ u.form
  pub count : v.count ≡ u.count
  pub units : units_read v ≡ units_read u
  pub overhang : v.overhang ≡ u.overhang
  pub front_half_width : v.front_half_width ≡ u.front_half_width
  pub rear_half_width : v.rear_half_width ≡ u.rear_half_width

pub record SameJob (j k : Job) : Type 0 where
  pub vehicle : SameVehicle j.vehicle k.vehicle
  pub start : j.start ≡ k.start
  pub step : j.step ≡ k.step
  pub count : j.count ≡ k.count
  pub elements : take j.count j.elements ≡ take k.count k.elements

-- a walk record holds the vehicle as it was handed in, unused units and a short job's bodies included; its vectors are all read (27)
pub record SameRig (s t : Drawn) : Type 0 where
  pub vehicle : SameVehicle s.vehicle t.vehicle
  pub station : s.station ≡ t.station
  pub vectors : s.vectors ≡ t.vectors
