-- What a rig has that passed the tests, in the forms that stepping and measuring ask.
use Prim.Native.Nat.{ℕ, zero, suc, ◌<◌}
use mathlib.Core.Path.{◌≡◌, subst}
use mathlib.Core.Bool.{true}
use mathlib.Core.List.{List, [], ◌∷◌}
use native.Mathlib.Omega.{arith}
use lib.ListN.{length, get_or, length-take}
use lib.Seq.{get_or-take}
use lib.IntN.{pos, ◌*ℤ◌}
use Rattle.std.proofs.lemmas.Bool.{and_parts}
use Rattle.plane.specs.declared.Vec2.{Vec2}
use Rattle.plane.specs.Length.{has_length, Near}
use Rattle.plane.proofs.Lengths.{near_of}
use Rattle.job.specs.declared.Unit.{Unit as VehicleUnit}
use Rattle.job.specs.declared.Vehicle.{Vehicle}
use Rattle.job.specs.Empty.{empty_unit}
use Rattle.walk.specs.Drawn.{Drawn}
use Rattle.walk.specs.Tests.{vehicle_sound, vector_sound, vectors_sound, units_in_use, record_sound}
use Rattle.walk.specs.Units.{wheelbase_of}
use Rattle.walk.specs.Rig.{zero_vector}
use Rattle.walk.specs.Rigid.{AllOfLength, Keeping}
use Rattle.walk.specs.Inner.{RigReady}
use Rattle.walk.proofs.VehicleTests.{units_counted, unit_ready_at}
use Rattle.walk.proofs.RecordTests.{sound_record}

-- lengths, from the test of the vectors
all_of_length : (us : List VehicleUnit) (ds : List Vec2) → vectors_sound us ds ≡ true → AllOfLength us ds
unfolding vector_sound vectors_sound
all_of_length [] ds e = tt
all_of_length (u ∷ us) [] e = absurd (let y : ◌≡◌ {A = ℕ} 0 1 = cc in omega arith)
all_of_length (u ∷ us) (d ∷ ds) e =
    let b = and_parts (has_length d (wheelbase_of u)) (vectors_sound us ds) e in
    (near_of d (wheelbase_of u) b.0, all_of_length us ds b.1)

pub sound_keeping : (asked : ℕ) (s : Drawn) → record_sound asked s ≡ true → Keeping s
sound_keeping asked s e =
    let r = sound_record asked s e in
    record { vehicle = r.vehicle; lengths = all_of_length (units_in_use s.vehicle) s.vectors r.vectors }

-- and back to the units one by one
near_at : (us : List VehicleUnit) (ds : List Vec2) (i : ℕ) → AllOfLength us ds → i < length us
    → let l = wheelbase_of (get_or us i empty_unit) in Near (get_or ds i zero_vector) l (pos 2 *ℤ l)
near_at [] ds i a h = absurd (omega arith)
near_at (u ∷ us) [] i a h = absurd a
near_at (u ∷ us) (d ∷ ds) zero a h = a.0
near_at (u ∷ us) (d ∷ ds) (suc i) a h = near_at us ds i a.1 (omega arith)

pub keeping_ready : (v : Vehicle) (ds : List Vec2) → length v.units ≡ 4 → vehicle_sound v ≡ true → AllOfLength (units_in_use v) ds → RigReady v ds
keeping_ready v ds places e a =
    let c = units_counted v e in
    record {
      least = c.0;
      most = c.1;
      units = λ i h. record {
        ready = unit_ready_at v e places i empty_unit h;
        near = subst (λ (u : VehicleUnit). Near (get_or ds i zero_vector) (wheelbase_of u) (pos 2 *ℤ wheelbase_of u)) (get_or-take v.count v.units i empty_unit h) (near_at (units_in_use v) ds i a (omega (arith, length-take v.count v.units, places)));
      };
    }
