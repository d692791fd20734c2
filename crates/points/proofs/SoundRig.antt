-- What the walk's tests let pass can be measured: a rig that can be drawn, of a vehicle that passed 27, at a station that passed 26.
use Prim.Native.Nat.{ℕ, zero-le, ◌-◌, ◌<◌}
use mathlib.Core.Path.{◌≡◌, refl}
use mathlib.Core.Bool.{Bool, true, false}
use mathlib.Core.List.{List}
use native.Mathlib.Omega.{arith}
use lib.Dec.{eqb}
use lib.ListN.{length}
use lib.IntN.{pos}
use Rattle.exact.proofs.Sizes.{within_neg}
use Rattle.number.specs.Read.{pick}
use Rattle.plane.specs.declared.Vec2.{Vec2}
use Rattle.job.specs.declared.Form.{Form}
use Rattle.job.specs.declared.Form.TheVariants.{Short, Long}
use Rattle.job.specs.declared.Vehicle.{Vehicle}
use Rattle.job.specs.Empty.{empty_unit}
use Rattle.job.proofs.FieldLaws.{BodyInRange}
use Rattle.path.specs.declared.Station.{Station}
use Rattle.walk.specs.Tests.{vehicle_sound}
use Rattle.walk.specs.Inner.{RigReady}
use Rattle.path.specs.Laying.{SoundStation}
use Rattle.walk.proofs.VehicleTests.{units_lengths, body_ready, overhang_most_lem, front_bounds, rear_bounds}
use Rattle.point_table.specs.declared.Base.{Base}
use Rattle.point_table.specs.declared.Base.TheVariants.{Front, Rear, LastRear}
use Rattle.points.specs.Corners.{body_by, body_of, corner, front_by, front_corner, rear_corner, corner_of}
use Rattle.points.specs.Requires.{BaseInUse, CornerSized, BodySized, RigAt}

-- the measures of a unit's corners: a long job's own body passed 27, a short one's are the old fields
module _ (v : Vehicle) (e : vehicle_sound v ≡ true) (n : length v.units ≡ 4) where
  body_by_lem : (f : Form) → v.form ≡ f → (i : ℕ) → i < v.count → BodyInRange (body_by f v i)
  body_by_lem Short q i h = record { front = zero-le; rear = zero-le; least = (rear_bounds v e).0; most = (rear_bounds v e).1 }
  body_by_lem Long q i h = body_ready v e q i empty_unit (omega (arith, units_lengths v e n))

  body_sized : (i : ℕ) → i < v.count → BodyInRange (body_of v i)
  unfolding body_of
  body_sized i h = body_by_lem v.form refl i h

  own_sized : (i : ℕ) → i < v.count → CornerSized (corner (pos (body_of v i).front_overhang) (body_of v i).half_width)
  own_sized i h = let b = body_sized i h in record { along = record { size = b.front }; width = record { size = b.most } }

  front_by_lem : (f : Form) (i : ℕ) → i < v.count → CornerSized (front_by f v i)
  front_by_lem Short i h = by (eqb i 0)
    where
      by : (t : Bool) → CornerSized (pick t (corner (pos v.overhang) v.front_half_width) (corner (pos (body_of v i).front_overhang) (body_of v i).half_width))
      by true = record { along = record { size = overhang_most_lem v e }; width = record { size = (front_bounds v e).1 } }
      by false = own_sized i h
  front_by_lem Long i h = own_sized i h

  front_sized : (i : ℕ) → i < v.count → CornerSized (front_corner v i)
  unfolding front_corner
  front_sized i h = front_by_lem v.form i h

  rear_sized : (i : ℕ) → i < v.count → CornerSized (rear_corner v i)
  unfolding rear_corner
  rear_sized i h = let b = body_sized i h in record { along = within_neg {x = pos (body_of v i).rear_overhang} (record { size = b.rear }); width = record { size = b.most } }

  corner_sized : (b : Base) → BaseInUse v b → CornerSized (corner_of v b)
  unfolding corner_of
  corner_sized (Front i) u = front_sized i u.unit
  corner_sized (Rear i) u = rear_sized i u.unit
  corner_sized LastRear u = rear_sized (v.count - 1) u.unit

  pub sound_body : BodySized v
  sound_body = record { corner = corner_sized; front_half_width = (front_bounds v e).1; rear_half_width = (rear_bounds v e).1 }

pub sound_rig : (v : Vehicle) (ds : List Vec2) (s : Station) → length v.units ≡ 4 → RigReady v ds → vehicle_sound v ≡ true → SoundStation s → RigAt v ds s.position
sound_rig v ds s n r e p = record { rig = r; body = sound_body v e n; front = record { x = p.x; y = p.y } }
