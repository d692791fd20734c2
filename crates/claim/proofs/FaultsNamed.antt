-- A job's fault is the number of a reason, so laying has an answer whatever it is handed.
use Prim.Native.Nat.{ℕ, zero, suc}
use mathlib.Core.Path.{◌≡◌, refl, ◌∙◌}
use mathlib.Core.Bool.{Bool, true, false}
use mathlib.Core.List.{List, [], ◌∷◌}
use lib.ListN.{length, take}
use Rattle.std.specs.Prelude.{Ok, Err}
use Rattle.refusal.specs.Numbers.{number_of}
use Rattle.refusal.specs.declared.Fault.{Fault}
use Rattle.refusal.specs.declared.Fault.TheVariants as F
use Rattle.job.specs.declared.Body.{Body}
use Rattle.job.specs.declared.Form.{Form}
use Rattle.job.specs.declared.Form.TheVariants.{Short, Long}
use Rattle.job.specs.declared.Vehicle.{Vehicle}
use Rattle.job.specs.declared.Job.{Job}
use Rattle.job.specs.Allowed.{unit_count_allowed, unit_allowed, body_allowed, widths_allowed, start_allowed, step_allowed, element_count_allowed, element_allowed}
use Rattle.job.specs.Steps.{tally, steps_allowed}
use Rattle.job.specs.Faults.{or_fault, first_of, fault_of, body_fault, unit_fault_at, units_fault, element_fault, total_fault, elements_fault, vehicle_fault, judge}
use Rattle.job.proofs.FaultLaws.{numbered}
use Rattle.path.specs.Stations.{stations}
use Rattle.path.specs.Laying.{PathRuns, room_for, written}
use Rattle.path.proofs.JobLaws.{fault_answered, no_room_answered, laid_answered}
use Rattle.claim.specs.PremisesMet.{Laying}

-- no fault, or a reason of that number
pub data Named (n : ℕ) : Type 0 where
  none : n ≡ 0 → Named n
  named : (f : Fault) → number_of f ≡ n → Named n

or_named : (t : Bool) (f : Fault) (rest : ℕ) → Named rest → Named (or_fault t (number_of f) rest)
or_named true f rest h = h
or_named false f rest h = named f refl

first_named : (m n : ℕ) → Named m → Named n → Named (first_of m n)
first_named zero n h k = k
first_named (suc m) n h k = h

row_named : {T A : Type 0} (one : T → A → ℕ) (next : T → A → T) (end : T → ℕ) → ((t : T) (x : A) → Named (one t x)) → ((t : T) → Named (end t)) → (t : T) (xs : List A) → Named (fault_of one next end t xs)
unfolding fault_of
row_named one next end h k t [] = k t
row_named one next end h k t (x ∷ xs) = first_named (one t x) (fault_of one next end (next t x) xs) (h t x) (row_named one next end h k (next t x) xs)

body_named : (form : Form) (b : Body) → Named (body_fault form b)
body_named Short b = none refl
body_named Long b = or_named (body_allowed b) F.Width 0 (none refl)

vehicle_named : (v : Vehicle) → Named (vehicle_fault v)
unfolding vehicle_fault units_fault
vehicle_named v =
    let units = row_named (unit_fault_at v.form v.count) _ _
    (λ i u. first_named _ (body_fault v.form u.body) (or_named (unit_allowed _ _ u) F.Unit 0 (none refl)) (body_named v.form u.body))
    (λ i. none refl) 0 (take v.count v.units) in
    or_named (unit_count_allowed v.count) F.UnitCount _ (first_named _ _ units (or_named (widths_allowed v) F.Width 0 (none refl)))

pub judge_named : (j : Job) → Named (judge j)
unfolding judge elements_fault
judge_named j =
    let elements = row_named element_fault (tally j.step) total_fault
    (λ t e. or_named (element_allowed e) F.Element 0 (none refl))
    (λ t. or_named (steps_allowed t) F.StepTotal 0 (none refl)) 0 (take j.count j.elements) in
    first_named (vehicle_fault j.vehicle) _ (vehicle_named j.vehicle)
    (or_named (start_allowed j.start) F.Start _
    (or_named (step_allowed j.step) F.Step _
    (or_named (element_count_allowed j.count) F.Element _ elements)))

pub lays : (j : Job) (before : PathRuns) → Laying j before
lays j before = by (judge_named j)
  where
    room_by : judge j ≡ 0 → (b : Bool) → room_for (length (stations j)) before ≡ b → Laying j before
    room_by z true e = record { answer = Ok (length (stations j)); after = written (stations j) before; ensured = laid_answered j before z e }
    room_by z false e = record { answer = Err F.RunTooShort; after = before; ensured = no_room_answered j before z e }

    by : Named (judge j) → Laying j before
    by (none z) = room_by z (room_for (length (stations j)) before) refl
    by (named f e) = record { answer = Err f; after = before; ensured = fault_answered j before f e (λ z. numbered f (e ∙ z)) }
