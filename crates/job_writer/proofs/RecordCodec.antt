-- The units, the elements and the whole record, read back as they were written and written as they were read. Assumes nothing.
use Prim.Native.Nat.{ℕ, zero, suc, ◌+◌, ◌≤◌}
use mathlib.Core.Path.{◌≡◌, refl, sym, ◌∙◌, ap}
use mathlib.Core.List.{List, [], ◌∷◌, ◌++◌, map, map-id}
use mathlib.Core.Bool.{true}
use native.Mathlib.Omega.{arith}
use lib.ListN.{length, take, length-take, length-map}
use lib.Seq.{sets, length-sets}
use lib.Dec.{eqb}
use Rattle.number.specs.Read.{Reader, ◌>>=◌, return, many, write_many}
use Rattle.number.proofs.Codec.{Codec, bound, placed, returned, tested, lastly, reworded}
use Rattle.number.proofs.CodecMany.{Each, each, take_sets, laid}
use Rattle.number.proofs.FieldCodec.{recast, within_most, field_codec, within_codec}
use Rattle.job.specs.Announced.{announces, announced_form, announced_count, announcing}
use Rattle.job.specs.Allowed.{unit_count_allowed, widths_allowed, step_allowed, element_count_allowed, element_allowed}
use Rattle.job.specs.Steps.{tally, steps_allowed}
use Rattle.job.specs.Faults.{fault_of, unit_fault_at, units_fault, element_fault, total_fault, elements_fault, vehicle_fault, judge}
use Rattle.job.specs.Empty.{empty_units, empty_elements, cleared_unit, cleared_units, cleared}
use Rattle.job.specs.declared.Form.{Form}
use Rattle.job.specs.declared.Unit.{Unit as VehicleUnit}
use Rattle.job.specs.declared.Vehicle.{Vehicle}
use Rattle.job.specs.declared.Start.{Start}
use Rattle.job.specs.declared.Element.{Element}
use Rattle.job.specs.declared.Job.{Job}
use Rattle.job.proofs.AnnouncedLaws.{announced, announced_by, announced_most}
use Rattle.job.proofs.FaultLaws.{first_none, or_none, SoundVehicle, sound_vehicle, vehicle_sound_lem, Sound, sound, job_sound}
use Rattle.job_reader.specs.Record.{read_unit_at, read_units, read_widths, read_vehicle, read_element, read_total, read_elements, read_path, read_record}
use Rattle.job_writer.specs.Write.{write_unit, write_widths, write_vehicle, write_element, write_path, write_job}
use Rattle.job_writer.proofs.PartCodecs.{passed, unit, widths, start, element}

-- values in a row, each without a fault at its state and with nothing to clear, and an end without a fault
module _ {T A : Type 0} (one : T → Reader A) (w : A → List ℕ) (fault : T → A → ℕ) (clear : A → A) (next : T → A → T) (end : T → Reader (List A)) (last : T → ℕ) where
  abbrev Ok : T → A → Type 0
  Ok t x = (fault t x ≡ 0) × (x ≡ clear x)

  abbrev Met : T → List A → Type 0
  Met t xs = (xs ≡ []) × (last t ≡ 0)

  abbrev Row : ℕ → T → List A → Type 0
  Row k t xs = (length xs ≡ k) × (fault_of fault next last t xs ≡ 0) × (xs ≡ map clear xs)

  to_row : (k : ℕ) (t : T) (xs : List A) → Each Ok next Met k t xs → Row k t xs
  unfolding fault_of
  to_row zero t xs o = (ap length o.0, ap (fault_of fault next last t) o.0 ∙ o.1, o.0 ∙ ap (map clear) (sym o.0))
  to_row (suc k) t [] o = absurd o
  to_row (suc k) t (x ∷ xs) o =
      let r = to_row k (next t x) xs o.1 in
      let h : x ≡ clear x = o.0.1 in
      let l : xs ≡ map clear xs = r.2 in
      (ap suc r.0, rw o.0.0 r.1, cc)

  of_row : (k : ℕ) (t : T) (xs : List A) → Row k t xs → Each Ok next Met k t xs
  unfolding fault_of
  of_row zero t [] o = (refl, o.1)
  of_row zero t (x ∷ xs) o = absurd (omega arith)
  of_row (suc k) t [] o = absurd (omega arith)
  of_row (suc k) t (x ∷ xs) o =
      let f = first_none (fault t x) (fault_of fault next last (next t x) xs) o.1 in
      let e : x ∷ xs ≡ clear x ∷ map clear xs = o.2 in
      let h : x ≡ clear x = cc in
      let l : xs ≡ map clear xs = cc in
      ((f.0, h), of_row k (next t x) xs (omega arith, f.1, l))

  pub row : ((t : T) → Codec (one t) w (Ok t)) → ((t : T) → Codec (end t) (write_many w) (Met t)) → (k : ℕ) (t : T) → Codec (many one next end k t) (write_many w) (Row k t)
  row c l k t = recast (to_row k t) (of_row k t) (each one w Ok next end Met c l k t)

-- nothing is written of an empty row
no_more : {A : Type 0} (w : A → List ℕ) (xs : List A) → xs ≡ [] → [] ≡ write_many w xs
unfolding write_many
no_more w xs e = rw e

units : (form : Form) (n : ℕ) → n ≤ 4 → Codec (read_units form n) (λ us. write_many (write_unit form) (take n us)) (λ us. ((length (take n us) ≡ n) × (units_fault form n us ≡ 0) × (take n us ≡ map (cleared_unit form) (take n us))) × (us ≡ sets empty_units 0 (take n us)))
unfolding read_units empty_units units_fault
units form n h =
    laid empty_units n (λ xs o. o.0) h
    (row (read_unit_at form n) (write_unit form) (unit_fault_at form n) (cleared_unit form) (λ i u. i + 1) (λ i. return []) (λ i. 0)
    (λ i. unit form (eqb i 0) (eqb (i + 1) n))
    (λ i. recast (λ xs o. (o, refl)) (λ xs o. o.0) (reworded (write_many (write_unit form)) (λ xs o. no_more (write_unit form) xs o) (returned [])))
    n 0)

-- an element has nothing to clear
elements : (step place n : ℕ) → n ≤ 64 → Codec (read_elements step place n) (λ es. write_many write_element (take n es)) (λ es. ((length (take n es) ≡ n) × (elements_fault step n es ≡ 0) × (take n es ≡ map (λ e. e) (take n es))) × (es ≡ sets empty_elements 0 (take n es)))
unfolding read_elements empty_elements elements_fault
elements step place n h =
    laid empty_elements n (λ xs o. o.0) h
    (row (λ t. read_element) write_element element_fault (λ e. e) (tally step) (read_total place) total_fault
    (λ t. recast (λ e q. (passed (element_allowed e) 7 q, refl)) (λ e f. (or_none (element_allowed e) 7 0 f.0).0) element)
    (λ t. recast (λ xs o. (o.1, passed (steps_allowed t) 8 o.0)) (λ xs o. ((or_none (steps_allowed t) 8 0 o.1).0, o.0)) (reworded (write_many write_element) (λ xs o. no_more write_element xs o.1) (tested (steps_allowed t) 9 place (returned []))))
    n 0)

pub four : length empty_units ≡ 4
unfolding empty_units
four = refl

pub sixty_four : length empty_elements ≡ 64
unfolding empty_elements
sixty_four = refl

-- as many as are in use
in_use : {A : Type 0} (l us xs : List A) (n m : ℕ) → length l ≡ m → n ≤ m → us ≡ sets l 0 xs → length (take n us) ≡ n
in_use l us xs n m k h e = omega (arith, length-take n us, ap length e, length-sets l 0 xs)

-- where clearing changes nothing, the units in use stay and those after them are empty
used : (form : Form) (n : ℕ) (us : List VehicleUnit) → n ≤ 4 → us ≡ cleared_units form n us → (length (take n us) ≡ n) × (take n us ≡ map (cleared_unit form) (take n us))
used form n us h e =
    let l = in_use empty_units us (map (cleared_unit form) (take n us)) n 4 four h e in
    let m = length-map (take n us) (cleared_unit form) in
    (l, ap (take n) e ∙ take_sets empty_units (map (cleared_unit form) (take n us)) n (omega arith) (omega (arith, four)))

-- a vehicle of so many units of this form, without a fault and with nothing to clear
pub record VehicleOk (f : Form) (n : ℕ) (v : Vehicle) : Type 0 where
  pub form : f ≡ v.form
  pub count : n ≡ v.count
  pub units : units_fault v.form v.count v.units ≡ 0
  pub cleared : v.units ≡ cleared_units v.form v.count v.units
  pub widths : widths_allowed v ≡ true

abbrev write_measures : Vehicle → List ℕ
write_measures v = write_many (write_unit v.form) (take v.count v.units) ++ write_widths v

measures : (f : Form) (n : ℕ) → n ≤ 4 → Codec (read_units f n >>= (λ us. read_widths f n us)) write_measures (VehicleOk f n)
measures f n h =
    recast
    (λ v o. record {
      form = o.1.1;
      count = o.1.2;
      units = rw (o.1.1, o.1.2) at o.0.0.1;
      cleared = rw (o.1.1, o.1.2) at (o.0.1 ∙ ap (sets empty_units 0) o.0.0.2);
      widths = o.1.0;
    })
    (λ v o.
    let c : v.units ≡ cleared_units f n v.units = rw (o.form, o.count) o.cleared in
    let u = used f n v.units h c in
    (((u.0, rw (o.form, o.count) o.units, u.1), c ∙ ap (sets empty_units 0) (sym u.1)), (o.widths, o.form, o.count, refl)))
    (reworded write_measures
    (λ v o. rw (o.1.1, o.1.2))
    (bound (λ v. v.units) (units f n h) (λ us _. widths f n us) (λ us v o. sym o.3)))

-- what stands after the number n that announces it
behind : (n : ℕ) → announces n ≡ true → Codec (read_units (announced_form n) (announced_count n) >>= (λ us. read_widths (announced_form n) (announced_count n) us)) write_measures (λ v. (announces n ≡ true) × VehicleOk (announced_form n) (announced_count n) v)
behind n k =
    recast (λ v o. (k, o)) (λ v o. o.1)
    (measures (announced_form n) (announced_count n) (within_most (record { least = 1; most = 4 }) (announced_count n) (announced_by n k).0))

pub vehicle : Codec read_vehicle write_vehicle (λ v. (vehicle_fault v ≡ 0) × (v.units ≡ cleared_units v.form v.count v.units))
unfolding read_vehicle
vehicle =
    recast
    (λ v o.
    let b = o.1.1 in
    let c : unit_count_allowed v.count ≡ true = ap unit_count_allowed (sym b.count) ∙ (announced_by (announcing v.form v.count) o.0).0 in
    let s : SoundVehicle v = record { count = c; units = b.units; widths = b.widths } in
    (vehicle_sound_lem v s, b.cleared))
    (λ v o.
    let s = sound_vehicle v o.0 in
    let a = announced v.form v.count s.count in
    (a.allowed, (a.allowed, record { form = a.form; count = a.count; units = s.units; cleared = o.1; widths = s.widths })))
    (bound (λ v. announcing v.form v.count) (field_codec 3 announces (λ n t. omega (arith, announced_most n t)))
    behind
    (λ n v o. rw (← o.1.form, ← o.1.count) (announced_by n o.0).1))

abbrev job_from : Vehicle → Start → ℕ → ℕ → List Element → Job
job_from v st d n es = record { vehicle = v; start = st; step = d; count = n; elements = es }

-- a path without a fault, behind a vehicle and a start
pub record PathOk (v : Vehicle) (st : Start) (j : Job) : Type 0 where
  pub step : step_allowed j.step ≡ true
  pub count : element_count_allowed j.count ≡ true
  pub elements : elements_fault j.step j.count j.elements ≡ 0
  pub rest : j.elements ≡ sets empty_elements 0 (take j.count j.elements)
  pub vehicle : v ≡ j.vehicle
  pub start : st ≡ j.start

path : (v : Vehicle) (st : Start) → Codec (read_path v st) write_path (PathOk v st)
unfolding read_path
path v st =
    recast
    (λ j o. record {
      step = o.0;
      count = o.1.0;
      elements = o.1.1.0.0.1;
      rest = o.1.1.0.1;
      vehicle = sym (ap (λ (x : Job). x.vehicle) o.1.1.1.1);
      start = sym (ap (λ (x : Job). x.start) o.1.1.1.1);
    })
    (λ j o.
    let n = within_most (record { least = 1; most = 64 }) j.count o.count in
    let l = in_use empty_elements j.elements (take j.count j.elements) j.count 64 sixty_four n o.rest in
    (o.step, (o.count, (((l, o.elements, sym (map-id (take j.count j.elements))), o.rest), (refl, rw (o.vehicle, o.start))))))
    (bound (λ j. j.step) (within_codec 7 (record { least = 100; most = 20000 }) (omega arith))
    (λ d _. placed (λ p.
    bound (λ j. j.count) (within_codec 8 (record { least = 1; most = 64 }) (omega arith))
    (λ n k.
    reworded (λ j. write_many write_element (take j.count j.elements))
    (λ j o. ap (λ (i : ℕ). write_many write_element (take i j.elements)) (sym (ap (λ (x : Job). x.count) o.1.1)))
    (lastly (λ es. true) 0 0 (λ es. job_from v st d n es) (λ j. j.elements) (λ es. refl) (elements d p n (within_most (record { least = 1; most = 64 }) n k))))
    (λ n j o. ap (λ (x : Job). x.count) o.1.1)))
    (λ d j o. ap (λ (x : Job). x.step) o.1.1.1))

-- what the reader takes has no fault, and its unused entries are empty
pub job : Codec read_record write_job (λ j. (judge j ≡ 0) × (j ≡ cleared j))
unfolding read_record write_job
job =
    recast
    (λ j o.
    let p = o.1.1 in
    let s : Sound j = record { vehicle = o.0.0; start = o.1.0; step = p.step; count = p.count; elements = p.elements } in
    (job_sound j s, rw (← o.0.1, ← p.rest)))
    (λ j o.
    let s = sound j o.0 in
    let p : PathOk j.vehicle j.start j = record { step = s.step; count = s.count; elements = s.elements; rest = ap (λ (x : Job). x.elements) o.1; vehicle = refl; start = refl } in
    ((s.vehicle, ap (λ (x : Job). x.vehicle.units) o.1), (s.start, p)))
    (bound (λ j. j.vehicle) vehicle
    (λ v _. bound (λ j. j.start) start (λ st _. path v st) (λ st j o. sym o.start))
    (λ v j o. sym o.1.vehicle))
