-- The faults 3 to 9 of a job handed over by value, in the order of its fields, and 0 for none (01, "Why a job is turned down").
-- Bodies are those of 02, N3.
use Rattle.std.specs.Prelude.{ℕ, zero, suc, ◌+◌, List, [], ◌∷◌, Bool, take, eqb}
use Rattle.number.specs.Read.{pick}
use Rattle.job.specs.Allowed.{unit_count_allowed, unit_allowed, body_allowed, widths_allowed, start_allowed, step_allowed, element_count_allowed, element_allowed}
use Rattle.job.specs.Steps.{tally, steps_allowed}
use Rattle.job.specs.declared.Element.{Element}
use Rattle.job.specs.declared.Body.{Body}
use Rattle.job.specs.declared.Form.{Form}
use Rattle.job.specs.declared.Form.TheVariants.{Short, Long}
use Rattle.job.specs.declared.Unit.{Unit as VehicleUnit}
use Rattle.job.specs.declared.Vehicle.{Vehicle}
use Rattle.job.specs.declared.Job.{Job}

-- the fault n where a test fails, else what comes after it
abbrev pub or_fault : Bool → ℕ → ℕ → ℕ
or_fault t n rest = pick t rest n

-- the first of two faults
abbrev pub first_of : ℕ → ℕ → ℕ
first_of zero n = n
first_of (suc m) n = suc m

-- the first fault of values in a row; a state t goes through them, and `end` has its last word
unfoldable pub fault_of : {T A : Type 0} → (T → A → ℕ) → (T → A → T) → (T → ℕ) → T → List A → ℕ
fault_of one next end t [] = end t
fault_of one next end t (x ∷ xs) = first_of (one t x) (fault_of one next end (next t x) xs)

abbrev pub measures_fault : Bool → Bool → VehicleUnit → ℕ
measures_fault first last u = or_fault (unit_allowed first last u) 4 0

-- a short job's body fields "are never read"
abbrev pub body_fault : Form → Body → ℕ
body_fault Short b = 0
body_fault Long b = or_fault (body_allowed b) 5 0

-- "with the body's three fields after each fold limit"
abbrev pub unit_fault : Form → Bool → Bool → VehicleUnit → ℕ
unit_fault form first last u = first_of (measures_fault first last u) (body_fault form u.body)

-- the state is the unit's index: the first and the last have their own rules
abbrev pub unit_fault_at : Form → ℕ → ℕ → VehicleUnit → ℕ
unit_fault_at form count i u = unit_fault form (eqb i 0) (eqb (i + 1) count) u

unfoldable pub units_fault : Form → ℕ → List VehicleUnit → ℕ
units_fault form count us = fault_of (unit_fault_at form count) (λ i u. i + 1) (λ i. 0) 0 (take count us)

-- the state is the running total of steps, which is tested after all elements
abbrev pub element_fault : ℕ → Element → ℕ
element_fault total e = or_fault (element_allowed e) 8 0

abbrev pub total_fault : ℕ → ℕ
total_fault total = or_fault (steps_allowed total) 9 0

unfoldable pub elements_fault : ℕ → ℕ → List Element → ℕ
elements_fault step count es = fault_of element_fault (tally step) total_fault 0 (take count es)

unfoldable pub vehicle_fault : Vehicle → ℕ
vehicle_fault v =
    or_fault (unit_count_allowed v.count) 3
    (first_of (units_fault v.form v.count v.units)
    (or_fault (widths_allowed v) 5 0))

unfoldable pub judge : Job → ℕ
judge j =
    first_of (vehicle_fault j.vehicle)
    (or_fault (start_allowed j.start) 6
    (or_fault (step_allowed j.step) 7
    (or_fault (element_count_allowed j.count) 8
    (elements_fault j.step j.count j.elements))))
