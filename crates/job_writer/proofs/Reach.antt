-- A record is read within its first 810 bytes: five for each of its fields. Assumes nothing.
use Prim.Native.Nat.{ℕ, ◌+◌, ◌*◌, ◌<◌, ◌≤◌}
use mathlib.Core.Path.{◌≡◌, refl, sym, ap}
use mathlib.Core.List.{List, []}
use mathlib.Core.Bool.{Bool, true, false}
use native.Mathlib.Omega.{arith}
use lib.ListN.{length, take, length-take}
use lib.Seq.{get_or-take, take_all}
use lib.Dec.{eqb, leb}
use borrow.Author.Tests.{ne_eqb, leb-true, leb-false}
use Rattle.number.specs.Read.{Read, got, refused, Reader, return, and_then}
use Rattle.number.proofs.FieldCodec.{within_most}
use Rattle.number.proofs.Locality.{Agree, Local, wider, returned, after, from_here, checked, in_row, laid, field_local, signed_local, signed_field_local}
use Rattle.job.specs.Allowed.{wheelbase_allowed, hitch_allowed, fold_allowed, overhang_allowed, old_overhang_allowed, half_width_allowed, coordinate_allowed, heading_allowed, step_allowed, element_count_allowed, length_allowed}
use Rattle.job.specs.Announced.{announces, announced_form, announced_count}
use Rattle.job.specs.Curves.{curve_of, radius_allowed}
use Rattle.job.specs.Steps.{tally, steps_allowed}
use Rattle.job.specs.Empty.{empty_body, empty_units, empty_elements}
use Rattle.job.specs.declared.Form.{Form}
use Rattle.job.specs.declared.Form.TheVariants.{Short, Long}
use Rattle.job.specs.declared.Unit.{Unit as VehicleUnit}
use Rattle.job.specs.declared.Vehicle.{Vehicle}
use Rattle.job.specs.declared.Start.{Start}
use Rattle.job.specs.declared.Job.{Job}
use Rattle.job.proofs.AnnouncedLaws.{announced_by}
use Rattle.job_reader.specs.Record.{read_body, read_body_of, read_unit, read_unit_at, read_units, read_widths, read_vehicle, read_start, read_element, read_total, read_elements, read_path, read_record, read_end, read_job}

-- whatever is read
abbrev Any : {A : Type 0} → A → Type 0
Any a = Unit {0}

forget : {A : Type 0} {r : Reader A} {P : A → Type 0} {w : ℕ} → Local r w P → Local r w Any
forget l = record { same = l.same; ends = λ s at a e q. ((l.ends s at a e q).0, tt) }

body : (form : Form) → Local (read_body_of form) 15 Any
unfolding read_body
body Short = wider 0 15 (omega arith) (returned empty_body)
body Long =
    after 5 10 (field_local 5 overhang_allowed) (λ f _.
    after 5 5 (field_local 5 overhang_allowed) (λ r _.
    after 5 0 (field_local 5 half_width_allowed) (λ w _. returned (record { front_overhang = f; rear_overhang = r; half_width = w }))))

unit : (form : Form) (first last : Bool) → Local (read_unit form first last) 30 Any
unfolding read_unit
unit form first last =
    after 5 25 (field_local 4 wheelbase_allowed) (λ l _.
    after 5 20 (signed_field_local 4 (hitch_allowed last l)) (λ h _.
    after 5 15 (signed_field_local 4 (fold_allowed first)) (λ f _.
    after 15 0 (body form) (λ b _. returned (record { wheelbase = l; hitch = h; fold = f; body = b })))))

units : (form : Form) (n : ℕ) → n ≤ 4 → Local (read_units form n) 120 Any
unfolding read_units
units form n h =
    wider (n * 30) 120 (omega arith)
    (laid (n * 30) empty_units (in_row (read_unit_at form n) (λ i u. i + 1) (λ i. return []) 30 (λ i. unit form (eqb i 0) (eqb (i + 1) n)) (λ i. returned []) n 0))

widths : (form : Form) (n : ℕ) (us : List VehicleUnit) → Local (read_widths form n us) 15 Any
unfolding read_widths
widths form n us =
    after 5 10 (field_local 5 (old_overhang_allowed form)) (λ o _.
    after 5 5 (field_local 5 half_width_allowed) (λ f _.
    after 5 0 (field_local 5 half_width_allowed) (λ r _. returned (record { form = form; count = n; units = us; overhang = o; front_half_width = f; rear_half_width = r }))))

vehicle : Local read_vehicle 140 Any
unfolding read_vehicle
vehicle =
    after 5 135 (field_local 3 announces) (λ n t.
    after 120 15 (units (announced_form n) (announced_count n) (within_most (record { least = 1; most = 4 }) (announced_count n) (announced_by n t).0)) (λ us _. widths (announced_form n) (announced_count n) us))

start : Local read_start 20 Any
unfolding read_start
start =
    after 5 15 (signed_field_local 6 coordinate_allowed) (λ x _.
    after 5 10 (signed_field_local 6 coordinate_allowed) (λ y _.
    from_here 10 (λ p.
    after 5 5 signed_local (λ gx _.
    after 5 0 signed_local (λ gy _. forget (checked 0 (heading_allowed gx gy) 6 p (returned (record { x = x; y = y; gx = gx; gy = gy }))))))))

element : Local read_element 10 Any
unfolding read_element
element =
    after 5 5 (field_local 8 length_allowed) (λ l _.
    after 5 0 (signed_field_local 8 radius_allowed) (λ r _. returned (record { length = l; curve = curve_of r })))

elements : (step place n : ℕ) → n ≤ 64 → Local (read_elements step place n) 640 Any
unfolding read_elements
elements step place n h =
    wider (n * 10) 640 (omega arith)
    (laid (n * 10) empty_elements (in_row (λ t. read_element) (tally step) (read_total place) 10 (λ t. element) (λ t. forget (checked 0 (steps_allowed t) 9 place (returned []))) n 0))

path : (v : Vehicle) (st : Start) → Local (read_path v st) 650 Any
unfolding read_path
path v st =
    after 5 645 (field_local 7 step_allowed) (λ d _.
    from_here 645 (λ p.
    after 5 640 (field_local 8 element_count_allowed) (λ n t.
    after 640 0 (elements d p n (within_most (record { least = 1; most = 64 }) n t)) (λ es _. returned (record { vehicle = v; start = st; step = d; count = n; elements = es })))))

pub whole : Local read_record 810 Any
unfolding read_record
whole = after 140 670 vehicle (λ v _. after 20 650 start (λ st _. path v st))

-- the first bytes of a longer input agree with it
agree : (n : ℕ) (s : List ℕ) → n ≤ length s → Agree n s (take n s)
agree n s h = record {
  left = h;
  right = omega (arith, length-take n s);
  same = λ i l. sym (get_or-take n s i 0 l);
}

-- the same answer on two inputs that agree so far, where neither ends as early
pub same_job : (m : ℕ) (s t : List ℕ) → 810 < m → Agree m s t → read_job s ≡ read_job t
unfolding read_job
same_job m s t h g = rw (← whole.same m s t 0 g (omega arith)) (through (read_record s 0) refl)
  where
    through : (x : Read Job) → read_record s 0 ≡ x → and_then x (λ j e. read_end j s e) ≡ and_then x (λ j e. read_end j t e)
    through (got j e) p =
        let k = whole.ends s 0 j e p in
        rw (ne_eqb e (length s) (λ z. omega (arith, k.0, g.left)), ne_eqb e (length t) (λ z. omega (arith, k.0, g.right)))
    through (refused n q) p = refl

pub first_bytes_lem : (n : ℕ) (s : List ℕ) → 810 < n → read_job (take n s) ≡ read_job s
first_bytes_lem n s h = go (leb n (length s)) refl
  where
    go : (b : Bool) → leb n (length s) ≡ b → read_job (take n s) ≡ read_job s
    go true p = sym (same_job n s (take n s) h (agree n s (leb-true n (length s) p)))
    go false p = ap read_job (take_all n s (omega (arith, leb-false n (length s) p)))
