-- What the functions that are no entries require of their callers.
use Rattle.std.specs.Prelude.{ℕ, ◌+◌, ◌≤◌, ◌<◌, ◌≡◌, List, true, length, get_or}
use Rattle.number.specs.Read.{write_many}
use Rattle.job.specs.Allowed.{curve_allowed}
use Rattle.job.specs.Faults.{judge}
use Rattle.job.specs.Empty.{empty_element}
use Rattle.job.specs.declared.Curve.{Curve}
use Rattle.job.specs.declared.Vehicle.{Vehicle}
use Rattle.job.specs.declared.Element.{Element}
use Rattle.job.specs.declared.Job.{Job}
use Rattle.job_writer.specs.Write.{write_vehicle, write_element, write_path}

pub record Allowed (curve : Curve) : Type 0 where
  pub allowed : curve_allowed curve ≡ true

-- the units in use, and room for the bytes
pub record VehicleFits (v : Vehicle) (at : ℕ) : Type 0 where
  pub most : v.count ≤ 4
  pub ends : at + length (write_vehicle v) ≤ 520

pub record ElementFits (e : Element) (at : ℕ) : Type 0 where
  pub allowed : curve_allowed e.curve ≡ true
  pub ends : at + length (write_element e) ≤ 520

pub record ElementsFit (elements : List Element) (at : ℕ) : Type 0 where
  pub allowed : (i : ℕ) → i < length elements → curve_allowed (get_or elements i empty_element).curve ≡ true
  pub ends : at + length (write_many write_element elements) ≤ 520

pub record PathFits (j : Job) (at : ℕ) : Type 0 where
  pub most : j.count ≤ 64
  pub allowed : (i : ℕ) → i < j.count → curve_allowed (get_or j.elements i empty_element).curve ≡ true
  pub ends : at + length (write_path j) ≤ 520

-- no fault
pub record Accepted (j : Job) : Type 0 where
  pub accepted : judge j ≡ 0
