-- What the tests let through can be started and advanced. Assumes nothing.
use Prim.Native.Nat.{ℕ, ◌+◌, ◌≤◌, ◌<◌}
use mathlib.Core.Path.{◌≡◌, subst}
use mathlib.Core.Bool.{true, false}
use mathlib.Core.List.{List}
use native.Mathlib.Omega.{arith}
use lib.ListN.{length, get_or}
use lib.Seq.{get_or-take}
use lib.IntN.{pos, ◌*ℤ◌}
use Rattle.plane.specs.declared.Vec2.{Vec2}
use Rattle.plane.specs.Length.{heading_length, Near}
use Rattle.job.specs.declared.Unit.{Unit as VehicleUnit}
use Rattle.job.specs.declared.Vehicle.{Vehicle}
use Rattle.job.specs.Empty.{empty_unit}
use Rattle.path.specs.Laying.{PathRuns}
use Rattle.walk.specs.declared.Walk.{Walk}
use Rattle.walk.specs.Drawn.{view, station_at}
use Rattle.walk.specs.Tests.{path_sound, vehicle_sound, vectors_sound, units_in_use, record_sound, at_last}
use Rattle.walk.specs.Units.{wheelbase_of}
use Rattle.walk.specs.Rig.{zero_vector}
use Rattle.walk.specs.Inner.{RigReady}
use Rattle.walk.specs.Moving.{StartReady, AdvanceReady}
use Rattle.walk.proofs.PathTests.{path_station}
use Rattle.walk.proofs.VehicleTests.{units_counted, units_lengths, unit_ready_at}
use Rattle.walk.proofs.VectorTests.{vector_near}
use Rattle.walk.proofs.RecordTests.{sound_record, not_last_lem}

module _ (v : Vehicle) (places : length v.units ≡ 4) (e : vehicle_sound v ≡ true) where
  pub start_ready : (g : Vec2) → Near g heading_length (pos 2 *ℤ heading_length) → StartReady v g
  start_ready g n = record { most = (units_counted v e).1; units = λ i h. unit_ready_at v e places i empty_unit h; heading = n }

  pub rig_ready : (ds : List Vec2) → length ds ≡ 4 → vectors_sound (units_in_use v) ds ≡ true → RigReady v ds
  rig_ready ds n s =
      let c = units_counted v e in
      let near : (i : ℕ) → i < v.count → let l = wheelbase_of (get_or v.units i empty_unit) in Near (get_or ds i zero_vector) l (pos 2 *ℤ l) =
      λ i h. subst (λ (u : VehicleUnit). Near (get_or ds i zero_vector) (wheelbase_of u) (pos 2 *ℤ wheelbase_of u)) (get_or-take v.count v.units i empty_unit h)
      (vector_near (units_in_use v) ds i empty_unit s (omega (arith, units_lengths v e places))) in
      record { least = c.0; most = c.1; units = λ i h. record { ready = unit_ready_at v e places i empty_unit h; near = near i h } }

-- a step from the station reached to the next, after 21, 26, 27 and 25
pub advance_ready : (asked : ℕ) (p : PathRuns) (w : Walk) → length w.vehicle.units ≡ 4 → length w.d ≡ 4 → asked ≤ 2001
    → path_sound asked p ≡ true → record_sound asked (view w) ≡ true → at_last asked (view w) ≡ false
    → AdvanceReady w (station_at p w.station).position (station_at p (w.station + 1)).position
advance_ready asked p w units vectors most path record_passed before_last =
    let r = sound_record asked (view w) record_passed in
    let n = not_last_lem asked (view w) before_last in
    let old = path_station p asked w.station path r.station in
    let new = path_station p asked (w.station + 1) path n in
    record {
      units = record { rig = rig_ready w.vehicle units r.vehicle w.d vectors r.vectors; old_x = old.x; old_y = old.y; new_x = new.x; new_y = new.y };
      station = omega (arith, r.station);
    }
