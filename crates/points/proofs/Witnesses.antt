-- Each requirement of this crate can be met, at the ends of its ranges too.
use Prim.Native.Nat.{ℕ, zero, suc, ◌-◌, ◌<◌}
use mathlib.Core.Path.{◌≡◌, refl}
use mathlib.Core.Bool.{true}
use mathlib.Core.List.{List, [], ◌∷◌}
use native.Mathlib.Omega.{arith}
use lib.Dec.{lit≤}
use lib.ListN.{get_or}
use lib.Seq.{sets}
use lib.IntN.{ℤ, pos, negsuc}
use lib.Signed.{le_z_yes}
use Rattle.exact.specs.Size.{Within}
use Rattle.plane.specs.declared.Vec2.{Vec2}
use Rattle.job.specs.declared.Body.{Body}
use Rattle.job.specs.declared.Form.TheVariants.{Long}
use Rattle.job.specs.declared.Unit.{Unit as VehicleUnit}
use Rattle.job.specs.declared.Vehicle.{Vehicle}
use Rattle.job.specs.Empty.{empty_unit}
use Rattle.job.specs.Faults.{fault_of, units_fault, vehicle_fault}
use Rattle.walk.specs.Tests.{vehicle_sound}
use Rattle.walk.specs.Rig.{zero_vector}
use Rattle.walk.specs.Inner.{UnitDrawn, HitchReady, RigReady}
use Rattle.marks.specs.Count.{point_count}
use Rattle.marks.proofs.CountLaws.{some_point}
use Rattle.point_table.specs.declared.Base.TheVariants.{Front, LastRear}
use Rattle.points.specs.Ends.{no_places, places_of}
use Rattle.point_table.specs.Table.{row_at}
use Rattle.points.specs.Points.{end_of}
use Rattle.points.specs.Requires.{PlaceSized, UnitInUse, BaseInUse, BodySized, RigAt, UnitsSized, EndSized, OffsetSized, Measured}
use Rattle.points.proofs.EndLaws.{units_sized}
use Rattle.points.proofs.SoundRig.{sound_body}
use Rattle.points.proofs.TableLaws.{row_in_use}
use Rattle.points.proofs.PointLaws.{end_sized, array_sized}

abbrev vec : ℤ → ℤ → Vec2
vec a b = record { x = a; y = b }

-- the largest body
abbrev body : Body
body = record { front_overhang = 50000; rear_overhang = 50000; half_width = 20000 }

-- the longest unit, with its hitch as far behind the rear axle as may be, and the shortest, with none
abbrev long : VehicleUnit
long = record { wheelbase = 200000; hitch = negsuc 199999; fold = pos 0; body = body }

abbrev short : VehicleUnit
short = record { wheelbase = 5000; hitch = pos 0; fold = pos 0; body = body }

long_met : UnitDrawn long (vec (pos 0) (pos 200000))
long_met =
    record {
      ready = record { wheelbase = record { least = le_z_yes tt; most = le_z_yes tt }; hitch = lit≤ tt; fold = record { size = lit≤ tt } };
      near = record { low = le_z_yes tt; high = le_z_yes tt };
    }

short_met : UnitDrawn short (vec (pos 3000) (negsuc 3999))
short_met =
    record {
      ready = record { wheelbase = record { least = le_z_yes tt; most = le_z_yes tt }; hitch = lit≤ tt; fold = record { size = lit≤ tt } };
      near = record { low = le_z_yes tt; high = le_z_yes tt };
    }

-- four units, the last the shortest
abbrev rig : Vehicle
rig = record { form = Long; count = 4; units = long ∷ long ∷ long ∷ short ∷ []; overhang = 0; front_half_width = 20000; rear_half_width = 20000 }

abbrev vectors : List Vec2
vectors = vec (pos 0) (pos 200000) ∷ vec (pos 0) (pos 200000) ∷ vec (pos 0) (pos 200000) ∷ vec (pos 3000) (negsuc 3999) ∷ []

abbrev corner : Vec2
corner = vec (pos 150000000) (negsuc 149999999)

corner_met : PlaceSized 150000000 corner
corner_met = record { x = record { size = lit≤ tt }; y = record { size = lit≤ tt } }

units_met : (i : ℕ) → i < 4 → UnitDrawn (get_or rig.units i empty_unit) (get_or vectors i zero_vector)
units_met zero h = long_met
units_met (suc zero) h = long_met
units_met (suc (suc zero)) h = long_met
units_met (suc (suc (suc zero))) h = short_met
units_met (suc (suc (suc (suc i)))) h = absurd (none i h)
  where
    none : (i : ℕ) → suc (suc (suc (suc i))) < 4 → ⊥
    none i h = omega arith

rig_sound : vehicle_sound rig ≡ true
unfolding vehicle_sound vehicle_fault units_fault fault_of
rig_sound = refl

body_met : BodySized rig
body_met = record { corner = (sound_body rig rig_sound refl).corner; front_half_width = lit≤ tt; rear_half_width = lit≤ tt }

rig_met : RigReady rig vectors
rig_met = record { least = lit≤ tt; most = lit≤ tt; units = units_met }

at_met : RigAt rig vectors corner
at_met = record { rig = rig_met; body = body_met; front = corner_met }

units_sized_met : UnitsSized rig (places_of rig vectors corner)
units_sized_met = units_sized at_met

hitch_met : HitchReady long corner (vec (pos 0) (pos 200000))
hitch_met = record { unit = long_met; place = record { x = record { size = lit≤ tt }; y = record { size = lit≤ tt } } }

-- the last of four units, and the first
last_met : BaseInUse rig LastRear
last_met = record { most = lit≤ tt; unit = lit≤ tt }

unit_met : UnitInUse rig 3
unit_met = record { most = lit≤ tt; unit = lit≤ tt }

first_met : BaseInUse rig (Front 0)
first_met = record { most = lit≤ tt; unit = lit≤ tt }

end_met : EndSized (end_of rig (places_of rig vectors corner) LastRear)
end_met = end_sized LastRear last_met units_sized_met

width_met : Within 20000 (pos 20000)
width_met = record { size = lit≤ tt }

offset_met : OffsetSized (end_of rig (places_of rig vectors corner) LastRear) (pos 50000) (negsuc 19999)
offset_met = record { end = end_met; along = record { size = lit≤ tt }; side = record { size = lit≤ tt } }

-- the last row
measured_met : Measured rig (sets no_places 0 (places_of rig vectors corner)) (row_at (point_count rig - 1))
measured_met = record { rig = array_sized at_met; body = body_met; base = row_in_use rig (lit≤ tt) (lit≤ tt) (point_count rig - 1) (omega (arith, some_point rig)) }
