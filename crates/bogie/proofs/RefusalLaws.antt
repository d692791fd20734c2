-- The refusals before any walk are 3 to 9, 21 and 29, never 30; without one the job is walked at each setting, and a run's answer is what its walk comes to.
use Prim.Native.Nat.{ℕ, zero, suc, ◌+◌, ◌≤◌, ◌<◌}
use mathlib.Core.Path.{◌≡◌, refl}
use mathlib.Core.Bool.{Bool, true, false, ◌&&◌}
use mathlib.Core.List.{List, [], ◌∷◌}
use native.Mathlib.Omega.{arith}
use lib.Dec.{eqb}
use lib.ListN.{length, take}
use Rattle.job.specs.declared.Body.{Body}
use Rattle.job.specs.declared.Form.{Form}
use Rattle.job.specs.declared.Form.TheVariants.{Short, Long}
use Rattle.job.specs.declared.Unit.{Unit as VehicleUnit}
use Rattle.job.specs.declared.Element.{Element}
use Rattle.job.specs.declared.Job.{Job}
use Rattle.job.specs.Allowed.{body_allowed, unit_count_allowed, unit_allowed, widths_allowed, start_allowed, step_allowed, element_count_allowed, element_allowed}
use Rattle.job.specs.Steps.{tally, steps_allowed}
use Rattle.job.specs.Faults.{or_fault, first_of, fault_of, body_fault, unit_fault_at, units_fault, element_fault, total_fault, elements_fault, vehicle_fault, judge}
use Rattle.job.proofs.FaultLaws.{first_of_lem, first_none, or_none}
use Rattle.path.specs.Stations.{stations}
use Rattle.path.specs.Laying.{PathRuns, room_for}
use Rattle.walk.specs.Tests.{reaches_lent}
use Rattle.reaches.specs.Cells.{Reaches, lengths_of}
use Rattle.run.specs.Ran.{Ran}
use Rattle.run.specs.Run.{run_refusal, job_path, job_course, RunEnsures}
use Rattle.bogie.specs.declared.Rail.{Rail}
use Rattle.bogie.specs.Settings.{setting_at, rail_allowed, job_set}
use Rattle.bogie.specs.List.{list_refusal, ran_job}
use Rattle.bogie.specs.Best.{InLimits, Walked}
use Rattle.bogie.proofs.FaultsKept.{kept_refusal}
use Rattle.bogie.proofs.RailLaws.{in_limits, wheelbase_at, limits_pass}

-- ---- how large a refusal is

first_most : (a b m : ℕ) → a ≤ m → b ≤ m → first_of a b ≤ m
first_most zero b m h k = k
first_most (suc a) b m h k = h

or_most : (t : Bool) (n rest m : ℕ) → n ≤ m → rest ≤ m → or_fault t n rest ≤ m
or_most true n rest m h k = k
or_most false n rest m h k = h

alone : (t : Bool) (n m : ℕ) → n ≤ m → or_fault t n 0 ≤ m
alone t n m h = or_most t n 0 m h (omega arith)

fault_most : {T A : Type 0} (one : T → A → ℕ) (next : T → A → T) (end : T → ℕ) (m : ℕ) → ((t : T) (x : A) → one t x ≤ m) → ((t : T) → end t ≤ m) → (t : T) (xs : List A) → fault_of one next end t xs ≤ m
unfolding fault_of
fault_most one next end m h k t [] = k t
fault_most one next end m h k t (x ∷ xs) = first_most (one t x) (fault_of one next end (next t x) xs) m (h t x) (fault_most one next end m h k (next t x) xs)

body_most : (form : Form) (b : Body) → body_fault form b ≤ 9
body_most Short b = omega arith
body_most Long b = alone (body_allowed b) 5 9 (omega arith)

units_most : (form : Form) (count : ℕ) (us : List VehicleUnit) → units_fault form count us ≤ 9
unfolding units_fault
units_most form count us =
    fault_most (unit_fault_at form count) (λ i u. i + 1) (λ i. 0) 9
    (λ i u. first_most _ _ 9 (alone (unit_allowed (eqb i 0) (eqb (i + 1) count) u) 4 9 (omega arith)) (body_most form u.body))
    (λ i. omega arith) 0 (take count us)

elements_most : (step count : ℕ) (es : List Element) → elements_fault step count es ≤ 9
unfolding elements_fault
elements_most step count es =
    fault_most element_fault (tally step) total_fault 9 (λ t e. alone (element_allowed e) 8 9 (omega arith)) (λ t. alone (steps_allowed t) 9 9 (omega arith)) 0 (take count es)

judge_most : (j : Job) → judge j ≤ 9
unfolding judge vehicle_fault
judge_most j =
    let v = j.vehicle in
    first_most _ _ 9
    (or_most (unit_count_allowed v.count) 3 _ 9 (omega arith) (first_most _ _ 9 (units_most v.form v.count v.units) (alone (widths_allowed v) 5 9 (omega arith))))
    (or_most (start_allowed j.start) 6 _ 9 (omega arith)
    (or_most (step_allowed j.step) 7 _ 9 (omega arith)
    (or_most (element_count_allowed j.count) 8 _ 9 (omega arith) (elements_most j.step j.count j.elements))))

pub refusal_most : (j : Job) (b : Rail) (p : PathRuns) (r : Reaches) → list_refusal j b p r ≤ 29
unfolding list_refusal run_refusal
refusal_most j b p r =
    let n = length (stations j) in
    first_most _ _ 29
    (or_most (eqb (judge j) 0) (judge j) _ 29 (omega (arith, judge_most j)) (alone (room_for n p && reaches_lent n (lengths_of r)) 21 29 (omega arith)))
    (alone (rail_allowed b) 29 29 (omega arith))

-- ---- none

walked_by : (m : ℕ) (t : Bool) → first_of m (or_fault t 29 0) ≡ 0 → (m ≡ 0) × (t ≡ true)
walked_by m t e = let k = first_none m (or_fault t 29 0) e in (k.0, (or_none t 28 0 k.1).0)

module _ (j : Job) (b : Rail) (p : PathRuns) (r : Reaches) where
  pub is_walked : list_refusal j b p r ≡ 0 → Walked j b p r
  unfolding list_refusal
  is_walked e = let k = walked_by (run_refusal j p r) (rail_allowed b) e in record { run = k.0; limits = in_limits b k.1 }

  pub none_refused : Walked j b p r → list_refusal j b p r ≡ 0
  unfolding list_refusal
  none_refused w = let a = w.run in let c = limits_pass b w.limits in rw (a, c) refl

  pub run_first : (run_refusal j p r ≡ 0 → ⊥) → list_refusal j b p r ≡ run_refusal j p r
  unfolding list_refusal
  run_first h = first_of_lem (run_refusal j p r) (or_fault (rail_allowed b) 29 0) h

  pub limits_next : run_refusal j p r ≡ 0 → (InLimits b → ⊥) → list_refusal j b p r ≡ 29
  unfolding list_refusal
  limits_next e h = by (rail_allowed b) refl
    where
      by : (t : Bool) → rail_allowed b ≡ t → first_of (run_refusal j p r) (or_fault (rail_allowed b) 29 0) ≡ 29
      by true f = absurd (h (in_limits b f))
      by false f = rw (e, f) refl

  pub none_at : Walked j b p r → (i : ℕ) → i < b.number → run_refusal (job_set j (setting_at b i)) p r ≡ 0
  none_at w i l = kept_refusal j p r (setting_at b i) w.run (wheelbase_at b w.limits i l)

-- ---- the answer of a run that is not refused

module _ (j : Job) (p : PathRuns) (r : Reaches) (none : run_refusal j p r ≡ 0) where
  pub run_is : RunEnsures j p r (ran_job j p r) (job_path j p) (job_course j p r).runs
  run_is = record { answered = rw none refl; path = rw none refl; reaches = rw none refl }

  pub is_run : {a : Ran} {q : PathRuns} {s : Reaches} → RunEnsures j p r a q s → (a ≡ ran_job j p r) × (q ≡ job_path j p) × (s ≡ (job_course j p r).runs)
  is_run h = (rw none at h.answered, rw none at h.path, rw none at h.reaches)
