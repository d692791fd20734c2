-- Each part of a record, read back as it was written and written as it was read; what was read has no fault. Assumes nothing.
use Prim.Native.Nat.{ℕ, zero, suc, ◌≤◌, ◌<◌, ◌^◌}
use mathlib.Core.Path.{◌≡◌, refl, sym, ◌∙◌, ap}
use mathlib.Core.List.{List}
use mathlib.Core.Bool.{Bool, true, ◌&&◌}
use native.Mathlib.Omega.{arith}
use lib.Dec.{leb}
use lib.IntN.{ℤ, pos, negsuc, nat_abs}
use Rattle.std.proofs.lemmas.Bool.{and_parts, and_from}
use Rattle.number.specs.Signed.{field_of}
use Rattle.number.proofs.Codec.{Codec, returned, bound, placed, lastly}
use Rattle.number.proofs.FieldCodec.{recast, within_most, field_size, within_codec, sized_codec, signed_codec, signed_field_codec}
use Rattle.job.specs.Allowed.{wheelbase_allowed, hitch_most, hitch_allowed, fold_allowed, overhang_most, overhang_allowed, old_overhang_allowed, half_width_allowed, coordinate_allowed, heading_allowed, length_allowed, curve_allowed, unit_allowed, body_allowed, widths_allowed, start_allowed, element_allowed}
use Rattle.job.specs.Faults.{or_fault, measures_fault, body_fault, unit_fault}
use Rattle.job.specs.Empty.{empty_body, cleared_body, cleared_unit}
use Rattle.job.specs.Curves.{curve_of, radius_of, radius_allowed}
use Rattle.job.specs.declared.Side.TheVariants.{Left, Right}
use Rattle.job.specs.declared.Curve.{Curve}
use Rattle.job.specs.declared.Curve.TheVariants.{Straight, Arc}
use Rattle.job.specs.declared.Body.{Body}
use Rattle.job.specs.declared.Form.{Form}
use Rattle.job.specs.declared.Form.TheVariants.{Short, Long}
use Rattle.job.specs.declared.Unit.{Unit as VehicleUnit}
use Rattle.job.specs.declared.Vehicle.{Vehicle}
use Rattle.job.specs.declared.Start.{Start}
use Rattle.job.specs.declared.Element.{Element}
use Rattle.job.proofs.FaultLaws.{first_none, or_none}
use Rattle.job.proofs.FieldLaws.{hitch_most_lem, overhang_most_lem, fold_size, heading_sizes, radius_size}
use Rattle.job_reader.specs.Record.{read_body, read_body_of, read_unit, read_widths, read_start, read_element}
use Rattle.job_writer.specs.Write.{write_body, write_unit, write_widths, write_start, write_element}

-- a signed number's field has 32 bits where its size has 31
small : (z : ℤ) → nat_abs z ≤ 1000000000 → field_of z < 2 ^ 32
small z h = omega (arith, field_size z)

abbrev body_from : ℕ → ℕ → ℕ → Body
body_from f r w = record { front_overhang = f; rear_overhang = r; half_width = w }

-- a test that gives a fault where it fails
pub passed : (t : Bool) (n : ℕ) → t ≡ true → or_fault t (suc n) 0 ≡ 0
passed t n h = rw h

-- a short job's body is not written, and read as the empty one
pub body : (form : Form) → Codec (read_body_of form) (write_body form) (λ b. (body_fault form b ≡ 0) × (b ≡ cleared_body form b))
unfolding read_body
body Short = recast (λ b o. (refl, o)) (λ b o. o.1) (returned empty_body)
body Long =
    recast (λ b o. (passed (body_allowed b) 4 (and_from _ _ o.0 (and_from _ _ o.1.0 o.1.1.0)), refl))
    (λ b t.
    let a = and_parts (overhang_allowed b.front_overhang) (overhang_allowed b.rear_overhang && half_width_allowed b.half_width) (or_none (body_allowed b) 4 0 t.0).0 in
    let c = and_parts (overhang_allowed b.rear_overhang) (half_width_allowed b.half_width) a.1 in
    (a.0, (c.0, (c.1, (refl, refl)))))
    (bound (λ b. b.front_overhang) (within_codec 5 (record { least = 0; most = 50000 }) (omega arith))
    (λ f _.
    bound (λ b. b.rear_overhang) (within_codec 5 (record { least = 0; most = 50000 }) (omega arith))
    (λ r _. lastly (λ w. true) 0 0 (λ w. body_from f r w) (λ b. b.half_width) (λ w. refl) (within_codec 5 (record { least = 1000; most = 20000 }) (omega arith)))
    (λ r b q. ap (λ (x : Body). x.rear_overhang) q.1.1))
    (λ f b q. ap (λ (x : Body). x.front_overhang) q.1.1.1))

abbrev unit_from : ℕ → ℤ → ℤ → Body → VehicleUnit
unit_from l h f b = record { wheelbase = l; hitch = h; fold = f; body = b }

pub unit : (form : Form) (first last : Bool) → Codec (read_unit form first last) (write_unit form) (λ u. (unit_fault form first last u ≡ 0) × (u ≡ cleared_unit form u))
unfolding read_unit
unit form first last =
    recast
    (λ u o.
    let m : measures_fault first last u ≡ 0 = passed (unit_allowed first last u) 3 (and_from _ _ o.0 (and_from _ _ o.1.0 o.1.1.0)) in
    let b = o.1.1.1.0 in
    (rw m b.0, ap (unit_from u.wheelbase u.hitch u.fold) b.1))
    (λ u t.
    let n = first_none (measures_fault first last u) (body_fault form u.body) t.0 in
    let a = and_parts (wheelbase_allowed u.wheelbase) (hitch_allowed last u.wheelbase u.hitch && fold_allowed first u.fold) (or_none (unit_allowed first last u) 3 0 n.0).0 in
    let b = and_parts (hitch_allowed last u.wheelbase u.hitch) (fold_allowed first u.fold) a.1 in
    (a.0, (b.0, (b.1, ((n.1, ap (λ (x : VehicleUnit). x.body) t.1), (refl, refl))))))
    (bound (λ u. u.wheelbase) (within_codec 4 (record { least = 5000; most = 200000 }) (omega arith))
    (λ l p.
    bound (λ u. u.hitch) (sized_codec 4 (hitch_most last l) (omega (arith, hitch_most_lem last l, within_most (record { least = 5000; most = 200000 }) l p)))
    (λ h _.
    bound (λ u. u.fold) (signed_field_codec 4 (fold_allowed first) (λ z t. small z (omega (arith, fold_size first z t))))
    (λ f _. lastly (λ b. true) 0 0 (λ b. unit_from l h f b) (λ u. u.body) (λ b. refl) (body form))
    (λ f u o. ap (λ (x : VehicleUnit). x.fold) o.1.1))
    (λ h u o. ap (λ (x : VehicleUnit). x.hitch) o.1.1.1))
    (λ l u o. ap (λ (x : VehicleUnit). x.wheelbase) o.1.1.1.1))

abbrev vehicle_from : Form → ℕ → List VehicleUnit → ℕ → ℕ → ℕ → Vehicle
vehicle_from form n us o f r = record { form = form; count = n; units = us; overhang = o; front_half_width = f; rear_half_width = r }

pub widths : (form : Form) (n : ℕ) (us : List VehicleUnit) → Codec (read_widths form n us) write_widths (λ v. (widths_allowed v ≡ true) × (form ≡ v.form) × (n ≡ v.count) × (us ≡ v.units))
unfolding read_widths
widths form n us =
    recast
    (λ v o.
    let e = sym (ap (λ (x : Vehicle). x.form) o.1.1.1.1) in (
      and_from _ _ (ap (λ (x : Form). old_overhang_allowed x v.overhang) (sym e) ∙ o.0) (and_from _ _ o.1.0 o.1.1.0),
      e,
      sym (ap (λ (x : Vehicle). x.count) o.1.1.1.1),
      sym (ap (λ (x : Vehicle). x.units) o.1.1.1.1),
    ))
    (λ v t.
    let a = and_parts (old_overhang_allowed v.form v.overhang) (half_width_allowed v.front_half_width && half_width_allowed v.rear_half_width) t.0 in
    let b = and_parts (half_width_allowed v.front_half_width) (half_width_allowed v.rear_half_width) a.1 in
    (ap (λ (x : Form). old_overhang_allowed x v.overhang) t.1 ∙ a.0, (b.0, (b.1, (refl, rw (t.1, t.2, t.3))))))
    (bound (λ v. v.overhang) (within_codec 5 (record { least = 0; most = overhang_most form }) (omega (arith, overhang_most_lem form)))
    (λ o _.
    bound (λ v. v.front_half_width) (within_codec 5 (record { least = 1000; most = 20000 }) (omega arith))
    (λ f _. lastly (λ r. true) 0 0 (λ r. vehicle_from form n us o f r) (λ v. v.rear_half_width) (λ r. refl) (within_codec 5 (record { least = 1000; most = 20000 }) (omega arith)))
    (λ f v q. ap (λ (x : Vehicle). x.front_half_width) q.1.1))
    (λ o v q. ap (λ (x : Vehicle). x.overhang) q.1.1.1))

abbrev start_from : ℤ → ℤ → ℤ → ℤ → Start
start_from x y gx gy = record { x = x; y = y; gx = gx; gy = gy }

pub start : Codec read_start write_start (λ s. start_allowed s ≡ true)
unfolding read_start
start =
    recast (λ s o. and_from _ _ o.0 (and_from _ _ o.1.0 o.1.1.1.1.0))
    (λ s t.
    let a = and_parts (coordinate_allowed s.x) (coordinate_allowed s.y && heading_allowed s.gx s.gy) t in
    let b = and_parts (coordinate_allowed s.y) (heading_allowed s.gx s.gy) a.1 in
    let g = heading_sizes s.gx s.gy b.1 in
    (a.0, (b.0, (small s.gx (omega (arith, g.0)), (small s.gy (omega (arith, g.1)), (b.1, refl))))))
    (bound (λ s. s.x) (sized_codec 6 100000000 (omega arith))
    (λ x _.
    bound (λ s. s.y) (sized_codec 6 100000000 (omega arith))
    (λ y _. placed (λ p.
    bound (λ s. s.gx) signed_codec
    (λ gx _. lastly (λ gy. heading_allowed gx gy) 6 p (λ gy. start_from x y gx gy) (λ s. s.gy) (λ g. refl) signed_codec)
    (λ gx s o. ap (λ (z : Start). z.gx) o.1.1)))
    (λ y s o. ap (λ (z : Start). z.y) o.1.1.1))
    (λ x s o. ap (λ (z : Start). z.x) o.1.1.1.1))

radius_curve : (z : ℤ) → radius_of (curve_of z) ≡ z
radius_curve (pos zero) = refl
radius_curve (pos (suc r)) = refl
radius_curve (negsuc r) = refl

curve_radius : (c : Curve) → curve_allowed c ≡ true → curve_of (radius_of c) ≡ c
curve_radius Straight t = refl
curve_radius (Arc Right zero) t = absurd (let z : ◌≡◌ {A = Bool} true (leb 20000 0) = sym (and_parts (leb 20000 0) (leb 0 1000000) t).0 in let q : ◌≡◌ {A = ℕ} 0 1 = cc in omega arith)
curve_radius (Arc Right (suc r)) t = refl
curve_radius (Arc Left zero) t = absurd (let z : ◌≡◌ {A = Bool} true (leb 20000 0) = sym (and_parts (leb 20000 0) (leb 0 1000000) t).0 in let q : ◌≡◌ {A = ℕ} 0 1 = cc in omega arith)
curve_radius (Arc Left (suc r)) t = refl

radius_small : (z : ℤ) → radius_allowed z ≡ true → field_of z < 2 ^ 32
radius_small z t =
    let h = radius_size (curve_of z) t in
    small z (omega (arith, ap nat_abs (radius_curve z)))

abbrev element_from : ℕ → ℤ → Element
element_from l z = record { length = l; curve = curve_of z }

pub element : Codec read_element write_element (λ e. element_allowed e ≡ true)
unfolding read_element
element =
    recast (λ e o. and_from _ _ o.0 (ap (λ (x : Element). curve_allowed x.curve) o.1.1.1 ∙ o.1.0))
    (λ e t.
    let a = and_parts (length_allowed e.length) (curve_allowed e.curve) t in
    let c = curve_radius e.curve a.1 in
    (a.0, (ap curve_allowed c ∙ a.1, (refl, rw c))))
    (bound (λ e. e.length) (within_codec 8 (record { least = 1; most = 40000000 }) (omega arith))
    (λ l _. lastly (λ z. true) 0 0 (λ z. element_from l z) (λ e. radius_of e.curve) radius_curve (signed_field_codec 8 radius_allowed radius_small))
    (λ l e o. ap (λ (x : Element). x.length) o.1.1))
