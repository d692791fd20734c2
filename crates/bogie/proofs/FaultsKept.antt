-- A job that is not refused is not refused with another last wheelbase that is allowed either.
use Prim.Native.Nat.{ℕ, zero, suc, ◌+◌, ◌-◌, ◌≤◌}
use mathlib.Core.Path.{◌≡◌}
use mathlib.Core.List.{List, [], ◌∷◌}
use mathlib.Core.Bool.{Bool, true, ◌&&◌}
use native.Mathlib.Omega.{arith}
use borrow.Author.Tests.{leb-true, eq-eqb}
use lib.Dec.{leb, eqb}
use lib.ListN.{set, get_or, take}
use lib.Seq.{take-set-lt, get_or-take}
use Rattle.std.proofs.lemmas.Bool.{and_parts, and_from}
use Rattle.job.specs.declared.Unit.{Unit as VehicleUnit}
use Rattle.job.specs.declared.Form.{Form}
use Rattle.job.specs.declared.Vehicle.{Vehicle}
use Rattle.job.specs.declared.Job.{Job}
use Rattle.job.specs.Allowed.{wheelbase_allowed, hitch_allowed, fold_allowed, unit_allowed}
use Rattle.job.specs.Empty.{empty_unit}
use Rattle.job.specs.Faults.{fault_of, measures_fault, body_fault, unit_fault_at, units_fault, vehicle_fault, judge}
use Rattle.job.proofs.FaultLaws.{first_none, or_none, sound_vehicle, vehicle_sound_lem, sound, job_sound}
use Rattle.path.specs.Stations.{stations}
use Rattle.path.specs.Laying.{PathRuns}
use Rattle.reaches.specs.Cells.{Reaches}
use Rattle.run.specs.Run.{run_refusal}
use Rattle.run.proofs.RunLaws.{all_passed, tests_passed}
use Rattle.bogie.specs.Settings.{unit_set, vehicle_set, job_set}

-- among values counted by their state, one is replaced by another that has no fault at its place
pub fault_set : {A : Type 0} (one : ℕ → A → ℕ) (t : ℕ) (xs : List A) (i : ℕ) (y z : A) → ((k : ℕ) → k ≡ t + i → one k (get_or xs i z) ≡ 0 → one k y ≡ 0) → fault_of one (λ k x. k + 1) (λ k. 0) t xs ≡ 0 → fault_of one (λ k x. k + 1) (λ k. 0) t (set xs i y) ≡ 0
unfolding fault_of
fault_set one t [] i y z f h = h
fault_set one t (x ∷ xs) zero y z f h =
    let k = first_none (one t x) (fault_of one (λ k x. k + 1) (λ k. 0) (t + 1) xs) h in
    let e = f t (omega arith) k.0 in
    rw e k.1
fault_set one t (x ∷ xs) (suc i) y z f h =
    let k = first_none (one t x) (fault_of one (λ k x. k + 1) (λ k. 0) (t + 1) xs) h in
    let e = k.0 in
    rw e (fault_set one (t + 1) xs i y z (λ m p. f m (omega arith)) k.1)

-- the last unit's hitch is 0 whatever its wheelbase is
pub unit_kept : (first : Bool) (u : VehicleUnit) (w : ℕ) → wheelbase_allowed w ≡ true → unit_allowed first true u ≡ true → unit_allowed first true (unit_set u w) ≡ true
unit_kept first u w h k = and_from _ _ h (and_parts (wheelbase_allowed u.wheelbase) (hitch_allowed true u.wheelbase u.hitch && fold_allowed first u.fold) k).1

last_kept : (form : Form) (count k : ℕ) (u : VehicleUnit) (w : ℕ) → k + 1 ≡ count → wheelbase_allowed w ≡ true → unit_fault_at form count k u ≡ 0 → unit_fault_at form count k (unit_set u w) ≡ 0
last_kept form count k u w e h f =
    let t = eq-eqb (k + 1) count e in
    let n = first_none (measures_fault (eqb k 0) true u) (body_fault form u.body) (rw t at f) in
    let a = unit_kept (eqb k 0) u w h (or_none (unit_allowed (eqb k 0) true u) 3 0 n.0).0 in
    rw (t, a) n.1

units_kept : (form : Form) (count : ℕ) (us : List VehicleUnit) (w : ℕ) → 1 ≤ count → wheelbase_allowed w ≡ true → units_fault form count us ≡ 0 → units_fault form count (set us (count - 1) (unit_set (get_or us (count - 1) empty_unit) w)) ≡ 0
unfolding units_fault
units_kept form count us w l h f =
    let u = get_or us (count - 1) empty_unit in
    rw (take-set-lt count us (count - 1) (unit_set u w) (omega arith))
    (fault_set (unit_fault_at form count) 0 (take count us) (count - 1) (unit_set u w) empty_unit
    (λ k e g. last_kept form count k u w (omega arith) h (rw (get_or-take count us (count - 1) empty_unit (omega arith)) at g))
    f)

pub kept_vehicle : (v : Vehicle) (w : ℕ) → vehicle_fault v ≡ 0 → wheelbase_allowed w ≡ true → vehicle_fault (vehicle_set v w) ≡ 0
kept_vehicle v w f h =
    let s = sound_vehicle v f in
    let least = leb-true 1 v.count (and_parts (leb 1 v.count) (leb v.count 4) s.count).0 in
    vehicle_sound_lem (vehicle_set v w) (record { count = s.count; units = units_kept v.form v.count v.units w least h s.units; widths = s.widths })

pub kept_job : (j : Job) (w : ℕ) → judge j ≡ 0 → wheelbase_allowed w ≡ true → judge (job_set j w) ≡ 0
kept_job j w f h =
    let s = sound j f in
    job_sound (job_set j w) (record { vehicle = kept_vehicle j.vehicle w s.vehicle h; start = s.start; step = s.step; count = s.count; elements = s.elements })

pub kept_refusal : (j : Job) (p : PathRuns) (r : Reaches) (w : ℕ) → run_refusal j p r ≡ 0 → wheelbase_allowed w ≡ true → run_refusal (job_set j w) p r ≡ 0
unfolding stations
kept_refusal j p r w e h = let k = tests_passed j p r e in all_passed (job_set j w) p r (kept_job j w k.0 h) k.1 k.2
