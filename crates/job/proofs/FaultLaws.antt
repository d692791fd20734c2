-- The first fault of the first n values of an array, turn by turn. Assumes nothing.
use Prim.Native.Nat.{ℕ, zero, suc, ◌+◌, ◌<◌, ◌≤◌}
use mathlib.Core.Path.{◌≡◌, refl, sym}
use mathlib.Core.List.{List, [], ◌∷◌}
use mathlib.Core.Bool.{Bool, true, false}
use native.Mathlib.Omega.{arith}
use borrow.Author.Tests.{ne_eqb}
use lib.Dec.{eqb}
use lib.ListN.{length, take, drop, get_or, length-take}
use Rattle.std.proofs.lemmas.List.{take-take}
use Rattle.number.proofs.ManyLaws.{next_of, none_of}
use Rattle.std.specs.Prelude.{Result, Ok, Err, is_ok}
use Rattle.refusal.specs.declared.Fault.{Fault}
use Rattle.refusal.specs.Numbers.{number_of, fault_number}
use Rattle.job.specs.Allowed.{unit_count_allowed, widths_allowed, start_allowed, step_allowed, element_count_allowed}
use Rattle.job.specs.Faults.{or_fault, first_of, fault_of, units_fault, elements_fault, vehicle_fault, judge}
use Rattle.job.specs.declared.Element.{Element}
use Rattle.job.specs.declared.Form.{Form}
use Rattle.job.specs.declared.Unit.{Unit as VehicleUnit}
use Rattle.job.specs.declared.Vehicle.{Vehicle}
use Rattle.job.specs.declared.Job.{Job}

module _ {T A : Type 0} (one : T → A → ℕ) (next : T → A → T) (end : T → ℕ) (es : List A) (n i : ℕ) (t : T) where
  pub fault_next : (z : A) → n ≤ length es → i < n → fault_of one next end t (drop i (take n es)) ≡ first_of (one t (get_or es i z)) (fault_of one next end (next t (get_or es i z)) (drop (i + 1) (take n es)))
  unfolding fault_of
  fault_next z h l = rw (next_of es n i z h l)

  pub fault_end : n ≤ i → fault_of one next end t (drop i (take n es)) ≡ end t
  unfolding fault_of
  fault_end h = rw (none_of es n i h)

-- a fault that is there is the first
pub first_of_lem : (m n : ℕ) → (m ≡ 0 → ⊥) → first_of m n ≡ m
first_of_lem zero n h = absurd (h refl)
first_of_lem (suc m) n h = refl

-- no fault: every test was passed
pub first_none : (m n : ℕ) → first_of m n ≡ 0 → (m ≡ 0) × (n ≡ 0)
first_none zero n h = (refl, h)
first_none (suc m) n h = absurd (omega arith)

pub or_none : (t : Bool) (n rest : ℕ) → or_fault t (suc n) rest ≡ 0 → (t ≡ true) × (rest ≡ 0)
or_none true n rest h = (refl, h)
or_none false n rest h = absurd (omega arith)

-- a vehicle without a fault, and a job
pub record SoundVehicle (v : Vehicle) : Type 0 where
  pub count : unit_count_allowed v.count ≡ true
  pub units : units_fault v.form v.count v.units ≡ 0
  pub widths : widths_allowed v ≡ true

pub record Sound (j : Job) : Type 0 where
  pub vehicle : vehicle_fault j.vehicle ≡ 0
  pub start : start_allowed j.start ≡ true
  pub step : step_allowed j.step ≡ true
  pub count : element_count_allowed j.count ≡ true
  pub elements : elements_fault j.step j.count j.elements ≡ 0

pub sound_vehicle : (v : Vehicle) → vehicle_fault v ≡ 0 → SoundVehicle v
unfolding vehicle_fault
sound_vehicle v h =
    let a = or_none (unit_count_allowed v.count) 2 (first_of (units_fault v.form v.count v.units) (or_fault (widths_allowed v) 5 0)) h in
    let b = first_none (units_fault v.form v.count v.units) (or_fault (widths_allowed v) 5 0) a.1 in
    record { count = a.0; units = b.0; widths = (or_none (widths_allowed v) 4 0 b.1).0 }

pub vehicle_sound_lem : (v : Vehicle) → SoundVehicle v → vehicle_fault v ≡ 0
unfolding vehicle_fault
vehicle_sound_lem v s = rw (s.count, s.units, s.widths)

pub sound : (j : Job) → judge j ≡ 0 → Sound j
unfolding judge
sound j h =
    let elements = elements_fault j.step j.count j.elements in
    let count = or_fault (element_count_allowed j.count) 8 elements in
    let step = or_fault (step_allowed j.step) 7 count in
    let a = first_none (vehicle_fault j.vehicle) (or_fault (start_allowed j.start) 6 step) h in
    let b = or_none (start_allowed j.start) 5 step a.1 in
    let c = or_none (step_allowed j.step) 6 count b.1 in
    let d = or_none (element_count_allowed j.count) 7 elements c.1 in
    record { vehicle = a.0; start = b.0; step = c.0; count = d.0; elements = d.1 }

pub job_sound : (j : Job) → Sound j → judge j ≡ 0
unfolding judge
job_sound j s = rw (s.vehicle, s.start, s.step, s.count, s.elements)

-- where there is no fault among values there is none at any of them
pub fault_at : {T A : Type 0} (one : T → A → ℕ) (next : T → A → T) (end : T → ℕ) (t : T) (xs : List A) (i : ℕ) (z : A) → fault_of one next end t xs ≡ 0 → i < length xs → (u : T) × (one u (get_or xs i z) ≡ 0)
unfolding fault_of
fault_at one next end t [] i z h l = absurd (omega arith)
fault_at one next end t (x ∷ xs) zero z h l = (t, (first_none (one t x) (fault_of one next end (next t x) xs) h).0)
fault_at one next end t (x ∷ xs) (suc i) z h l =
    fault_at one next end (next t x) xs i z (first_none (one t x) (fault_of one next end (next t x) xs) h).1 (omega arith)

-- each refusal has a number, which no other test hides
pub numbered : (f : Fault) → number_of f ≡ 0 → ⊥
numbered f h = grind arith

pub first_told : {A : Type 0} (r : Result A Fault) (f : Fault) (n : ℕ) → r ≡ Err f → first_of (fault_number r) n ≡ number_of f
first_told r f n e = rw e (first_of_lem (number_of f) n (numbered f))

-- the values in use are a slice of their own: its length is their number, and its first so many values are all of it
module _ (n : ℕ) where
  pub units_used : (form : Form) (us : List VehicleUnit) → n ≤ length us → units_fault form (length (take n us)) (take n us) ≡ units_fault form n us
  unfolding units_fault
  units_used form us h =
      let l : length (take n us) ≡ n = omega (arith, length-take n us) in
      rw (l, take-take n n us (omega arith))

  pub elements_used : (step : ℕ) (es : List Element) → n ≤ length es → elements_fault step (length (take n es)) (take n es) ≡ elements_fault step n es
  unfolding elements_fault
  elements_used step es h =
      let l : length (take n es) ≡ n = omega (arith, length-take n es) in
      rw (l, take-take n n es (omega arith))

pub ok_by_number : {A : Type 0} (r : Result A Fault) → is_ok r ≡ eqb (fault_number r) 0
ok_by_number (Ok a) = refl
ok_by_number (Err f) = sym (ne_eqb (number_of f) 0 (numbered f))
