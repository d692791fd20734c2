-- What the inner functions require can be met: the worked job of 01, "Rigs to try". Assumes nothing.
use Prim.Native.Nat.{ℕ, zero, suc, ◌<◌}
use mathlib.Core.List.{[], ◌∷◌}
use mathlib.Core.Path.{◌≡◌, refl}
use native.Mathlib.Omega.{arith}
use Rattle.number.specs.Read.{write_many}
use Rattle.number.specs.Number.{write_groups, write_number}
use Rattle.plane.specs.Length.{has_length}
use lib.ListN.{get_or}
use mathlib.Core.Bool.{true}
use Rattle.job.specs.Allowed.{heading_allowed, curve_allowed}
use Rattle.job.specs.Faults.{fault_of, units_fault, elements_fault, vehicle_fault, judge}
use Rattle.job.specs.Empty.{empty_units, empty_elements, empty_element}
use Rattle.job.specs.declared.Curve.TheVariants.{Straight}
use Rattle.job_reader.specs.Worked.{worked_record}
use Rattle.job_reader.proofs.Rows.{worked_job}
use Rattle.job_writer.specs.Write.{write_job}
use Rattle.job_writer.specs.Inner.{Allowed, VehicleFits, ElementFits, ElementsFit, PathFits, Accepted}
use Rattle.job_writer.proofs.LengthLaws.{elements_allowed}
use Rattle.job.proofs.FaultLaws.{sound}

-- the worked job has no fault, and its encoding is the worked record
pub worked_judged : judge worked_job ≡ 0
unfolding worked_job has_length heading_allowed fault_of units_fault elements_fault vehicle_fault judge empty_units empty_elements
worked_judged = refl

pub worked_written : write_job worked_job ≡ worked_record
unfolding worked_job write_many write_groups write_number write_job empty_units empty_elements
worked_written = refl

accepted : Accepted worked_job
accepted = record { accepted = worked_judged }

allowed : Allowed Straight
allowed = record { allowed = refl }

vehicle_fits : VehicleFits worked_job.vehicle 0
unfolding worked_job write_many write_groups write_number empty_units
vehicle_fits = record { most = omega arith; ends = omega arith }

element_fits : ElementFits empty_element 21
unfolding write_groups write_number
element_fits = record { allowed = refl; ends = omega arith }

each_allowed : (i : ℕ) → i < 1 → curve_allowed (get_or worked_job.elements i empty_element).curve ≡ true
unfolding worked_job empty_elements
each_allowed = elements_allowed 5000 1 worked_job.elements (omega arith) (sound worked_job worked_judged).elements

each_straight : (i : ℕ) → i < 1 → curve_allowed (get_or (empty_element ∷ []) i empty_element).curve ≡ true
each_straight zero h = refl
each_straight (suc i) h = absurd (omega arith)

elements_fit : ElementsFit (empty_element ∷ []) 21
unfolding write_many write_groups write_number
elements_fit = record { allowed = each_straight; ends = omega arith }

path_fits : PathFits worked_job 18
unfolding worked_job write_many write_groups write_number empty_elements
path_fits = record { most = omega arith; allowed = each_allowed; ends = omega arith }
