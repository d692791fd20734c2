-- A job without a fault takes no more bytes than its fields' widths come to, with the long lengths that its steps allow. Assumes nothing.
use Prim.Native.Nat.{ℕ, suc, ◌+◌, ◌*◌, ◌^◌, ◌/◌, ◌%◌, ◌≤◌, ◌<◌}
use mathlib.Core.Path.{◌≡◌, refl}
use mathlib.Core.List.{List, [], ◌∷◌, ◌++◌}
use mathlib.Core.Bool.{Bool, true, false, ◌&&◌}
use native.Mathlib.Omega.{arith}
use native.Mathlib.Nat.{div-add-mod', mod-lt, mul-le-mul_left}
use lib.ListN.{length, take, get_or, length-append, length-take}
use lib.Seq.{get_or-take}
use lib.IntN.{ℤ, nat_abs}
use lib.Dec.{eqb, leb}
use borrow.Author.Tests.{leb-true, leb-false, eqb-true}
use Rattle.std.proofs.lemmas.Bool.{and_parts}
use Rattle.number.specs.Read.{write_many}
use Rattle.number.specs.Number.{write_number}
use Rattle.number.specs.Signed.{field_of, write_signed}
use Rattle.number.proofs.GroupLaws.{pick_by}
use Rattle.number.proofs.FieldCodec.{within_most, field_size}
use Rattle.number.proofs.Widths.{number_width, many_width}
use Rattle.job.specs.Allowed.{wheelbase_allowed, hitch_most, hitch_allowed, fold_allowed, overhang_most, overhang_allowed, old_overhang_allowed, half_width_allowed, coordinate_allowed, heading_allowed, step_allowed, length_allowed, curve_allowed, unit_allowed, body_allowed, widths_allowed, start_allowed, element_allowed}
use Rattle.job.specs.Announced.{announcing}
use Rattle.job.specs.Curves.{radius_of}
use Rattle.job.specs.Steps.{steps_of, tally, steps_allowed}
use Rattle.job.specs.Faults.{fault_of, measures_fault, body_fault, unit_fault, unit_fault_at, units_fault, element_fault, total_fault, elements_fault, judge}
use Rattle.job.specs.Empty.{empty_element}
use Rattle.job.specs.declared.Body.{Body}
use Rattle.job.specs.declared.Form.{Form}
use Rattle.job.specs.declared.Form.TheVariants.{Short, Long}
use Rattle.job.specs.declared.Unit.{Unit as VehicleUnit}
use Rattle.job.specs.declared.Vehicle.{Vehicle}
use Rattle.job.specs.declared.Start.{Start}
use Rattle.job.specs.declared.Element.{Element}
use Rattle.job.specs.declared.Job.{Job}
use Rattle.job.proofs.AnnouncedLaws.{announced, announced_most}
use Rattle.job.proofs.FaultLaws.{first_none, or_none, fault_at, sound, sound_vehicle}
use Rattle.job.proofs.FieldLaws.{hitch_most_lem, overhang_most_lem, fold_size, heading_sizes, radius_size}
use Rattle.job_writer.specs.Write.{write_three, write_body, write_unit, write_widths, write_vehicle, write_start, write_element, write_path, write_job}
use Rattle.job_writer.specs.Length.{body_width, unit_width, widths_width, start_width, element_width, long_lengths, longest_record}

-- a number in a range, by the range's most
ranged : (k least most v : ℕ) → most < 128 ^ suc k → (leb least v && leb v most) ≡ true → length (write_number v) ≤ suc k
ranged k least most v h t = number_width k v (omega (arith, leb-true v most (and_parts (leb least v) (leb v most) t).1))

-- a signed number, by its size
sized : (k most : ℕ) (z : ℤ) → 2 * most < 128 ^ suc k → nat_abs z ≤ most → length (write_signed z) ≤ suc k
sized k most z h s = number_width k (field_of z) (omega (arith, field_size z))

three_length : (x y z : ℕ) → length (write_number x) ≤ 3 → length (write_number y) ≤ 3 → length (write_number z) ≤ 3 → length (write_three x y z) ≤ 3 + 3 + 3
three_length x y z p q r = omega (
  arith,
  length-append (write_number x) (write_number y ++ write_number z),
  length-append (write_number y) (write_number z),
)

body_length : (form : Form) (b : Body) → body_fault form b ≡ 0 → length (write_body form b) ≤ body_width
body_length Short b h = omega arith
body_length Long b h =
    let t = (or_none (body_allowed b) 4 0 h).0 in
    let a = and_parts (overhang_allowed b.front_overhang) (overhang_allowed b.rear_overhang && half_width_allowed b.half_width) t in
    let c = and_parts (overhang_allowed b.rear_overhang) (half_width_allowed b.half_width) a.1 in
    three_length b.front_overhang b.rear_overhang b.half_width
    (ranged 2 0 50000 b.front_overhang (omega arith) a.0)
    (ranged 2 0 50000 b.rear_overhang (omega arith) c.0)
    (ranged 2 1000 20000 b.half_width (omega arith) c.1)

pub unit_length : (form : Form) (first last : Bool) (u : VehicleUnit) → unit_fault form first last u ≡ 0 → length (write_unit form u) ≤ unit_width
unit_length form first last u f =
    let n = first_none (measures_fault first last u) (body_fault form u.body) f in
    let a = and_parts (wheelbase_allowed u.wheelbase) (hitch_allowed last u.wheelbase u.hitch && fold_allowed first u.fold) (or_none (unit_allowed first last u) 3 0 n.0).0 in
    let b = and_parts (hitch_allowed last u.wheelbase u.hitch) (fold_allowed first u.fold) a.1 in
    let w : u.wheelbase ≤ 200000 = within_most (record { least = 5000; most = 200000 }) u.wheelbase a.0 in
    let h : nat_abs u.hitch ≤ 200000 = omega (arith, w, hitch_most_lem last u.wheelbase, leb-true (nat_abs u.hitch) (hitch_most last u.wheelbase) b.0) in
    omega (
      arith,
      length-append (write_number u.wheelbase) (write_signed u.hitch ++ (write_signed u.fold ++ write_body form u.body)),
      length-append (write_signed u.hitch) (write_signed u.fold ++ write_body form u.body),
      length-append (write_signed u.fold) (write_body form u.body),
      number_width 2 u.wheelbase (omega arith),
      sized 2 200000 u.hitch (omega arith) h,
      sized 1 1000 u.fold (omega arith) (fold_size first u.fold b.1),
      body_length form u.body n.1,
    )

pub widths_length : (v : Vehicle) → widths_allowed v ≡ true → length (write_widths v) ≤ widths_width
widths_length v t =
    let a = and_parts (old_overhang_allowed v.form v.overhang) (half_width_allowed v.front_half_width && half_width_allowed v.rear_half_width) t in
    let b = and_parts (half_width_allowed v.front_half_width) (half_width_allowed v.rear_half_width) a.1 in
    three_length v.overhang v.front_half_width v.rear_half_width
    (ranged 2 0 (overhang_most v.form) v.overhang (omega (arith, overhang_most_lem v.form)) a.0)
    (ranged 2 1000 20000 v.front_half_width (omega arith) b.0)
    (ranged 2 1000 20000 v.rear_half_width (omega arith) b.1)

pub start_length : (s : Start) → start_allowed s ≡ true → length (write_start s) ≤ start_width
start_length s t =
    let a = and_parts (coordinate_allowed s.x) (coordinate_allowed s.y && heading_allowed s.gx s.gy) t in
    let b = and_parts (coordinate_allowed s.y) (heading_allowed s.gx s.gy) a.1 in
    let g = heading_sizes s.gx s.gy b.1 in
    omega (
      arith,
      length-append (write_signed s.x) (write_signed s.y ++ (write_signed s.gx ++ write_signed s.gy)),
      length-append (write_signed s.y) (write_signed s.gx ++ write_signed s.gy),
      length-append (write_signed s.gx) (write_signed s.gy),
      sized 3 100000000 s.x (omega arith) (leb-true (nat_abs s.x) 100000000 a.0),
      sized 3 100000000 s.y (omega arith) (leb-true (nat_abs s.y) 100000000 b.0),
      sized 2 1000000 s.gx (omega arith) g.0,
      sized 2 1000000 s.gy (omega arith) g.1,
    )

-- full steps and a shorter one for the remainder make up the length
covered : (step l : ℕ) → 0 < step → l ≤ steps_of step l * step
covered step l h =
    let d = div-add-mod' l step in
    pick_by (λ x. l ≤ (l / step + x) * step) (eqb (l % step) 0) {x = 0} {y = 1}
    (λ t. omega (arith, eqb-true (l % step) 0 t)) (λ t. omega (arith, mod-lt l h))

-- a step is at most 20,000, and 104 of them are less than a length of four bytes
long_steps : (step l : ℕ) → step_allowed step ≡ true → 128 ^ 3 ≤ l → 105 ≤ steps_of step l
long_steps step l t h =
    let b = and_parts (leb 100 step) (leb step 20000) t in
    let least = leb-true 100 step b.0 in
    let most = leb-true step 20000 b.1 in
    omega (arith, covered step l (omega arith), mul-le-mul_left (steps_of step l) most)

-- a byte beyond the width is the fourth of a length that takes 105 steps or more
pub element_length : (step : ℕ) (e : Element) → step_allowed step ≡ true → element_allowed e ≡ true → 105 * length (write_element e) ≤ 105 * element_width + steps_of step e.length
element_length step e d t = go (leb (128 ^ 3) e.length) refl
  where
    a : (length_allowed e.length ≡ true) × (curve_allowed e.curve ≡ true)
    a = and_parts (length_allowed e.length) (curve_allowed e.curve) t

    radius : length (write_element e) ≤ length (write_number e.length) + 3
    radius = omega (
      arith,
      length-append (write_number e.length) (write_signed (radius_of e.curve)),
      sized 2 1000000 (radius_of e.curve) (omega arith) (radius_size e.curve a.1),
    )

    go : (b : Bool) → leb (128 ^ 3) e.length ≡ b → 105 * length (write_element e) ≤ 105 * element_width + steps_of step e.length
    go true p = omega (
      arith,
      radius,
      ranged 3 1 40000000 e.length (omega arith) a.0,
      long_steps step e.length d (leb-true (128 ^ 3) e.length p),
    )
    go false p = omega (arith, radius, number_width 2 e.length (omega (arith, leb-false (128 ^ 3) e.length p)))

-- values in a row without a fault
many_length : {T A : Type 0} (w : A → List ℕ) (m : ℕ) (one : T → A → ℕ) (next : T → A → T) (end : T → ℕ) → ((t : T) (x : A) → one t x ≡ 0 → length (w x) ≤ m) → (t : T) (xs : List A) → fault_of one next end t xs ≡ 0 → length (write_many w xs) ≤ length xs * m
unfolding fault_of
many_length w m one next end f t [] h = unfold write_many in (omega arith)
many_length w m one next end f t (x ∷ xs) h =
    let n = first_none (one t x) (fault_of one next end (next t x) xs) h in
    many_width w m x xs (f t x n.0) (many_length w m one next end f (next t x) xs n.1)

pub units_length : (form : Form) (count : ℕ) (us : List VehicleUnit) → count ≤ 4 → units_fault form count us ≡ 0 → length (write_many (write_unit form) (take count us)) ≤ 4 * unit_width
unfolding units_fault
units_length form count us h f = omega (
  arith,
  length-take count us,
  many_length (write_unit form) unit_width (unit_fault_at form count) (λ i u. i + 1) (λ i. 0) (λ i u t. unit_length form (eqb i 0) (eqb (i + 1) count) u t) 0 (take count us) f,
)

-- elements without a fault, after so many steps: each byte beyond the widths takes 105 of the 2,000
pub elements_steps : (step total : ℕ) (es : List Element) → step_allowed step ≡ true → fault_of element_fault (tally step) total_fault total es ≡ 0 → 105 * length (write_many write_element es) + total ≤ 105 * (length es * element_width) + 2000
unfolding fault_of write_many
elements_steps step total [] d h = omega (arith, leb-true total 2000 (or_none (steps_allowed total) 8 0 h).0)
elements_steps step total (e ∷ es) d h =
    let n = first_none (element_fault total e) (fault_of element_fault (tally step) total_fault (tally step total e) es) h in
    omega (
      arith,
      length-append (write_element e) (write_many write_element es),
      element_length step e d (or_none (element_allowed e) 7 0 n.0).0,
      elements_steps step (tally step total e) es d n.1,
    )

pub elements_length : (step count : ℕ) (es : List Element) → step_allowed step ≡ true → count ≤ 64 → elements_fault step count es ≡ 0 → length (write_many write_element (take count es)) ≤ 64 * element_width + long_lengths
unfolding elements_fault
elements_length step count es d h f = omega (arith, length-take count es, elements_steps step 0 (take count es) d f)

pub record_length_lem : (j : Job) → judge j ≡ 0 → length (write_job j) ≤ longest_record
unfolding write_job
record_length_lem j h =
    let s = sound j h in
    let v = sound_vehicle j.vehicle s.vehicle in
    let n : j.vehicle.count ≤ 4 = within_most (record { least = 1; most = 4 }) j.vehicle.count v.count in
    let m : j.count ≤ 64 = within_most (record { least = 1; most = 64 }) j.count s.count in
    let first = announcing j.vehicle.form j.vehicle.count in
    let fourteen = announced_most first (announced j.vehicle.form j.vehicle.count v.count).allowed in
    let us = write_many (write_unit j.vehicle.form) (take j.vehicle.count j.vehicle.units) in
    let es = write_many write_element (take j.count j.elements) in
    omega (
      arith,
      length-append (write_vehicle j.vehicle) (write_start j.start ++ write_path j),
      length-append (write_start j.start) (write_path j),
      length-append (write_number first) (us ++ write_widths j.vehicle),
      length-append us (write_widths j.vehicle),
      length-append (write_number j.step) (write_number j.count ++ es),
      length-append (write_number j.count) es,
      number_width 0 first (omega arith),
      units_length j.vehicle.form j.vehicle.count j.vehicle.units n v.units,
      widths_length j.vehicle v.widths,
      start_length j.start s.start,
      ranged 2 100 20000 j.step (omega arith) s.step,
      number_width 0 j.count (omega arith),
      elements_length j.step j.count j.elements s.step m s.elements,
    )

-- each element of a job without a fault is allowed
pub elements_allowed : (step count : ℕ) (es : List Element) → count ≤ length es → elements_fault step count es ≡ 0 → (i : ℕ) → i < count → curve_allowed (get_or es i empty_element).curve ≡ true
unfolding elements_fault
elements_allowed step count es h f i l =
    let q = fault_at element_fault (tally step) total_fault 0 (take count es) i empty_element f (omega (arith, length-take count es)) in
    let e = get_or es i empty_element in
    let t : element_allowed e ≡ true = (or_none (element_allowed e) 7 0 (rw (get_or-take count es i empty_element l) at q.1)).0 in
    (and_parts (length_allowed e.length) (curve_allowed e.curve) t).1
