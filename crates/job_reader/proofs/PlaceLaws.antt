-- A job is refused by a number from 1 to 10, at a byte of the input or at its end. Assumes nothing.
use Prim.Native.Nat.{ℕ, ◌+◌, ◌≤◌}
use mathlib.Core.List.{List, []}
use mathlib.Core.Bool.{Bool, true, false}
use native.Mathlib.Omega.{arith}
use lib.ListN.{length}
use lib.Dec.{T, eqb, leb, lit≤}
use lib.IntN.{ℤ}
use Rattle.number.specs.Read.{got, refused, pick, return}
use Rattle.number.specs.Field.{field, signed_field}
use Rattle.number.proofs.PlaceLaws.{RefusedIn, Inside, Stays, returned, after, from_here, checked, in_row, laid, field_stays, signed_stays, signed_field_stays}
use Rattle.job.specs.Allowed.{wheelbase_allowed, hitch_allowed, fold_allowed, overhang_allowed, old_overhang_allowed, half_width_allowed, coordinate_allowed, heading_allowed, step_allowed, element_count_allowed, length_allowed}
use Rattle.job.specs.Announced.{announces, announced_form, announced_count}
use Rattle.job.specs.Curves.{curve_of, radius_allowed}
use Rattle.job.specs.Steps.{tally, steps_allowed}
use Rattle.job.specs.Empty.{empty_body, empty_units, empty_elements}
use Rattle.job.specs.declared.Form.{Form}
use Rattle.job.specs.declared.Form.TheVariants.{Short, Long}
use Rattle.job.specs.declared.Unit.{Unit as VehicleUnit}
use Rattle.job.specs.declared.Vehicle.{Vehicle}
use Rattle.job.specs.declared.Start.{Start}
use Rattle.job.specs.declared.Job.{Job}
use Rattle.job_reader.specs.Record.{read_body, read_body_of, read_unit, read_unit_at, read_units, read_widths, read_vehicle, read_start, read_element, read_total, read_elements, read_path, read_record, read_end, read_job}

module _ (s : List ℕ) where
  by : (n p : ℕ) → T (leb 1 n) → T (leb n 10) → p ≤ length s → RefusedIn s 10 n p
  by n p l m h = record { least = lit≤ l; most = lit≤ m; place = h }

  number_field : (n : ℕ) → T (leb 1 n) → T (leb n 10) → (allowed : ℕ → Bool) → Stays s 10 (field n allowed)
  number_field n l m = field_stays s 10 (lit≤ tt) n (lit≤ l) (lit≤ m)

  signed_field_lem : (n : ℕ) → T (leb 1 n) → T (leb n 10) → (allowed : ℤ → Bool) → Stays s 10 (signed_field n allowed)
  signed_field_lem n l m = signed_field_stays s 10 (lit≤ tt) n (lit≤ l) (lit≤ m)

  body : Stays s 10 read_body
  unfolding read_body
  body =
      after s 10 (number_field 5 tt tt overhang_allowed) (λ f.
      after s 10 (number_field 5 tt tt overhang_allowed) (λ r.
      after s 10 (number_field 5 tt tt half_width_allowed) (λ w. returned s 10 (record { front_overhang = f; rear_overhang = r; half_width = w }))))

  body_of : (form : Form) → Stays s 10 (read_body_of form)
  body_of Short = returned s 10 empty_body
  body_of Long = body

  unit : (form : Form) (first last : Bool) → Stays s 10 (read_unit form first last)
  unfolding read_unit
  unit form first last =
      after s 10 (number_field 4 tt tt wheelbase_allowed) (λ l.
      after s 10 (signed_field_lem 4 tt tt (hitch_allowed last l)) (λ h.
      after s 10 (signed_field_lem 4 tt tt (fold_allowed first)) (λ f.
      after s 10 (body_of form) (λ b. returned s 10 (record { wheelbase = l; hitch = h; fold = f; body = b })))))

  units : (form : Form) (n : ℕ) → Stays s 10 (read_units form n)
  unfolding read_units
  units form n = laid s 10 empty_units (in_row s 10 (read_unit_at form n) (λ i u. i + 1) (λ i. return []) (λ i. unit form (eqb i 0) (eqb (i + 1) n)) (λ i. returned s 10 []) n 0)

  widths : (form : Form) (n : ℕ) (us : List VehicleUnit) → Stays s 10 (read_widths form n us)
  unfolding read_widths
  widths form n us =
      after s 10 (number_field 5 tt tt (old_overhang_allowed form)) (λ o.
      after s 10 (number_field 5 tt tt half_width_allowed) (λ f.
      after s 10 (number_field 5 tt tt half_width_allowed) (λ r. returned s 10 (record { form = form; count = n; units = us; overhang = o; front_half_width = f; rear_half_width = r }))))

  vehicle : Stays s 10 read_vehicle
  unfolding read_vehicle
  vehicle =
      after s 10 (number_field 3 tt tt announces) (λ n.
      after s 10 (units (announced_form n) (announced_count n)) (λ us. widths (announced_form n) (announced_count n) us))

  start : Stays s 10 read_start
  unfolding read_start
  start =
      after s 10 (signed_field_lem 6 tt tt coordinate_allowed) (λ x.
      after s 10 (signed_field_lem 6 tt tt coordinate_allowed) (λ y.
      from_here s 10 (λ p h.
      after s 10 (signed_stays s 10 (omega arith)) (λ gx.
      after s 10 (signed_stays s 10 (omega arith)) (λ gy.
      checked s 10 (heading_allowed gx gy) 6 p (by 6 p tt tt h) (returned s 10 (record { x = x; y = y; gx = gx; gy = gy })))))))

  element : Stays s 10 read_element
  unfolding read_element
  element =
      after s 10 (number_field 8 tt tt length_allowed) (λ l.
      after s 10 (signed_field_lem 8 tt tt radius_allowed) (λ r. returned s 10 (record { length = l; curve = curve_of r })))

  elements : (step place n : ℕ) → place ≤ length s → Stays s 10 (read_elements step place n)
  unfolding read_elements
  elements step place n h =
      laid s 10 empty_elements
      (in_row s 10 (λ t. read_element) (tally step) (read_total place) (λ t. element) (λ t. checked s 10 (steps_allowed t) 9 place (by 9 place tt tt h) (returned s 10 [])) n 0)

  path : (v : Vehicle) (st : Start) → Stays s 10 (read_path v st)
  unfolding read_path
  path v st =
      after s 10 (number_field 7 tt tt step_allowed) (λ d.
      from_here s 10 (λ p h.
      after s 10 (number_field 8 tt tt element_count_allowed) (λ n.
      after s 10 (elements d p n h) (λ es. returned s 10 (record { vehicle = v; start = st; step = d; count = n; elements = es })))))

  record_stays : Stays s 10 read_record
  unfolding read_record
  record_stays = after s 10 vehicle (λ v. after s 10 start (λ st. path v st))

  end : (j : Job) → Stays s 10 (read_end j)
  end j = record { inside = λ at h. at_end (eqb at (length s)) at h }
    where
      at_end : (b : Bool) (at : ℕ) → at ≤ length s → Inside s 10 (pick b (got j at) (refused 10 at))
      at_end true at h = h
      at_end false at h = by 10 at tt tt h

  pub read_inside : Inside s 10 (read_job s)
  unfolding read_job
  read_inside = (after s 10 record_stays (λ j. end j)).inside 0 (omega arith)
