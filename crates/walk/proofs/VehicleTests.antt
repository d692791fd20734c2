-- What a vehicle that passed its test holds. Assumes nothing.
use Prim.Native.Nat.{ℕ, ◌+◌, ◌≤◌, ◌<◌}
use mathlib.Core.Path.{◌≡◌, subst}
use mathlib.Core.Bool.{Bool, true, ◌&&◌}
use native.Mathlib.Omega.{arith}
use borrow.Author.Tests.{leb-true, eqb-true}
use lib.Dec.{eqb}
use lib.ListN.{length, get_or, length-take}
use lib.Seq.{get_or-take}
use lib.IntN.{nat_abs}
use Rattle.std.proofs.lemmas.Bool.{and_parts}
use Rattle.exact.specs.Size.{Within}
use Rattle.exact.proofs.Order.{≤-pos}
use Rattle.job.specs.declared.Form.TheVariants.{Long}
use Rattle.job.specs.declared.Unit.{Unit as VehicleUnit}
use Rattle.job.specs.declared.Vehicle.{Vehicle}
use Rattle.job.specs.Allowed.{wheelbase_allowed, hitch_most, hitch_allowed, fold_allowed, overhang_most, old_overhang_allowed, half_width_allowed, unit_allowed, body_allowed}
use Rattle.job.specs.Faults.{vehicle_fault, measures_fault, body_fault, unit_fault_at, units_fault}
use Rattle.job.proofs.FaultLaws.{SoundVehicle, sound_vehicle, first_none, or_none, fault_at}
use Rattle.job.proofs.FieldLaws.{range, hitch_most_lem, overhang_most_lem as most-overhang, BodyInRange, body_in_range, fold_size}
use Rattle.unit.proofs.UnitTests.{wheelbase_of_lem}
use Rattle.walk.specs.Tests.{vehicle_sound, units_in_use}
use Rattle.walk.specs.Inner.{UnitReady}

ready : (first last : Bool) (u : VehicleUnit) → unit_allowed first last u ≡ true → UnitReady u
ready first last u e =
    let h = hitch_allowed last u.wheelbase u.hitch in
    let f = fold_allowed first u.fold in
    let p = and_parts (wheelbase_allowed u.wheelbase) (h && f) e in
    let q = and_parts h f p.1 in
    record {
      wheelbase = wheelbase_of_lem u.wheelbase p.0;
      hitch = omega (arith, leb-true (nat_abs u.hitch) (hitch_most last u.wheelbase) q.0, hitch_most_lem last u.wheelbase);
      fold = record { size = fold_size first u.fold q.1 };
    }

-- no hitch is larger than the greatest wheelbase
pub hitch_size : {u : VehicleUnit} → UnitReady u → Within 200000 u.hitch
hitch_size r = record { size = omega (arith, r.hitch, ≤-pos r.wheelbase.most) }

module _ (v : Vehicle) (e : vehicle_sound v ≡ true) where
  passed : SoundVehicle v
  unfolding vehicle_sound
  passed = sound_vehicle v (eqb-true (vehicle_fault v) 0 e)

  -- from 1 to 4 units
  pub units_counted : (1 ≤ v.count) × (v.count ≤ 4)
  units_counted = range 1 4 v.count passed.count

  -- each unit in use has neither fault, at its own place
  unit_passed : (i : ℕ) (z : VehicleUnit) → i < length (units_in_use v) → (k : ℕ) × (measures_fault (eqb k 0) (eqb (k + 1) v.count) (get_or (units_in_use v) i z) ≡ 0) × (body_fault v.form (get_or (units_in_use v) i z).body ≡ 0)
  unfolding units_fault
  unit_passed i z h =
      let f = fault_at (unit_fault_at v.form v.count) (λ i u. i + 1) (λ i. 0) 0 (units_in_use v) i z passed.units h in
      let u = get_or (units_in_use v) i z in
      let n = first_none (measures_fault (eqb f.0 0) (eqb (f.0 + 1) v.count) u) (body_fault v.form u.body) f.1 in
      (f.0, n.0, n.1)

  -- so its measures are in range
  pub unit_ready : (i : ℕ) (z : VehicleUnit) → i < length (units_in_use v) → UnitReady (get_or (units_in_use v) i z)
  unit_ready i z h =
      let f = unit_passed i z h in
      let first = eqb f.0 0 in
      let last = eqb (f.0 + 1) v.count in
      ready first last (get_or (units_in_use v) i z) (or_none (unit_allowed first last (get_or (units_in_use v) i z)) 3 0 f.1).0

  -- and in a long job its body
  pub body_ready : v.form ≡ Long → (i : ℕ) (z : VehicleUnit) → i < length (units_in_use v) → BodyInRange (get_or (units_in_use v) i z).body
  body_ready l i z h =
      let b = (get_or (units_in_use v) i z).body in
      let n : body_fault Long b ≡ 0 = rw l at (unit_passed i z h).2 in
      body_in_range b (or_none (body_allowed b) 4 0 n).0

  -- the same, of the vehicle's own four places
  pub units_lengths : length v.units ≡ 4 → length (units_in_use v) ≡ v.count
  units_lengths n = omega (arith, length-take v.count v.units, units_counted)

  pub unit_ready_at : length v.units ≡ 4 → (i : ℕ) (z : VehicleUnit) → i < v.count → UnitReady (get_or v.units i z)
  unit_ready_at n i z h = subst UnitReady (get_or-take v.count v.units i z h) (unit_ready i z (omega (arith, units_lengths n)))

  pub body_ready_at : length v.units ≡ 4 → v.form ≡ Long → (i : ℕ) (z : VehicleUnit) → i < v.count → BodyInRange (get_or v.units i z).body
  body_ready_at n l i z h = subst (λ (u : VehicleUnit). BodyInRange u.body) (get_or-take v.count v.units i z h) (body_ready l i z (omega (arith, units_lengths n)))

  -- the overhang and the half widths
  widths : (old_overhang_allowed v.form v.overhang ≡ true) × (half_width_allowed v.front_half_width ≡ true) × (half_width_allowed v.rear_half_width ≡ true)
  widths =
      let f = half_width_allowed v.front_half_width in
      let r = half_width_allowed v.rear_half_width in
      let p = and_parts (old_overhang_allowed v.form v.overhang) (f && r) passed.widths in
      let q = and_parts f r p.1 in
      (p.0, q.0, q.1)

  overhang_form : v.overhang ≤ overhang_most v.form
  overhang_form = (range 0 (overhang_most v.form) v.overhang widths.0).1

  pub overhang_most_lem : v.overhang ≤ 50000
  overhang_most_lem = omega (arith, overhang_form, most-overhang v.form)

  -- a long job's is 0
  pub overhang_long : v.form ≡ Long → v.overhang ≡ 0
  overhang_long l = let h : v.overhang ≤ overhang_most Long = rw l at overhang_form in omega arith

  pub front_bounds : (1000 ≤ v.front_half_width) × (v.front_half_width ≤ 20000)
  front_bounds = range 1000 20000 v.front_half_width widths.1

  pub rear_bounds : (1000 ≤ v.rear_half_width) × (v.rear_half_width ≤ 20000)
  rear_bounds = range 1000 20000 v.rear_half_width widths.2
