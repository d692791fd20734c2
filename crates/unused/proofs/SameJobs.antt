-- Faults, bytes and stations of jobs that agree but for unused entries. Assumes nothing.
use Prim.Native.Nat.{ℕ}
use mathlib.Core.Path.{◌≡◌, refl, sym, ◌∙◌, ap}
use mathlib.Core.List.{map}
use lib.ListN.{length, take}
use Rattle.number.proofs.FieldCodec.{within_most}
use Rattle.job.specs.declared.Vehicle.{Vehicle}
use Rattle.job.specs.declared.Job.{Job}
use Rattle.job.specs.Empty.{empty_elements, cleared_unit, cleared}
use Rattle.job.specs.Faults.{units_fault, elements_fault, vehicle_fault, judge}
use Rattle.job.proofs.ClearedLaws.{units_once, row_cleared, used_cleared}
use Rattle.job.proofs.FaultLaws.{sound_vehicle, sound}
use Rattle.job_writer.specs.Write.{write_job}
use Rattle.job_writer.proofs.RecordCodec.{sixty_four}
use Rattle.job_writer.proofs.RoundTrip.{kept, units_written}
use Rattle.refusal.specs.Numbers.{Answer, answered, refused}
use Rattle.path.specs.Stations.{stations}
use Rattle.path.specs.Laying.{PathRuns, lay_answer, laid_runs}
use Rattle.unused.specs.Same.{SameVehicle, SameJob}

pub vehicle_fault_lem : (v u : Vehicle) → SameVehicle v u → vehicle_fault v ≡ vehicle_fault u
unfolding vehicle_fault units_fault
vehicle_fault_lem v u s =
    rw (← row_cleared v.form v.count 0 (take v.count v.units), ← row_cleared u.form u.count 0 (take u.count u.units))
    (rw (s.units, s.form, s.count, s.overhang, s.front_half_width, s.rear_half_width))

pub emptied : (j : Job) → length j.vehicle.units ≡ 4 → length j.elements ≡ 64 → judge j ≡ 0 → SameJob j (cleared j)
emptied j p q h =
    let s = sound j h in
    let f = j.vehicle.form in
    let k = j.vehicle.count in
    let us = j.vehicle.units in
    let n = within_most (record { least = 1; most = 4 }) j.vehicle.count (sound_vehicle j.vehicle s.vehicle).count in
    let m = within_most (record { least = 1; most = 64 }) j.count s.count in
    record {
      vehicle = record { form = refl; count = refl; units = sym (ap (map (cleared_unit f)) (used_cleared f k us p n) ∙ units_once f (take k us)); overhang = refl; front_half_width = refl; rear_half_width = refl };
      start = refl;
      step = refl;
      count = refl;
      elements = sym (kept empty_elements j.elements j.count 64 sixty_four q m);
    }

module _ (j k : Job) (s : SameJob j k) where
  pub fault : judge j ≡ judge k
  unfolding judge elements_fault
  fault = rw (vehicle_fault_lem j.vehicle k.vehicle s.vehicle, s.elements, s.start, s.step, s.count)

  pub bytes : write_job j ≡ write_job k
  unfolding write_job
  bytes =
      rw (← units_written j.vehicle.form (take j.vehicle.count j.vehicle.units), ← units_written k.vehicle.form (take k.vehicle.count k.vehicle.units))
      (rw (s.vehicle.units, s.vehicle.form, s.vehicle.count, s.vehicle.overhang, s.vehicle.front_half_width, s.vehicle.rear_half_width, s.elements, s.start, s.step, s.count))

  pub laid_stations : stations j ≡ stations k
  unfolding stations
  laid_stations = rw (s.elements, s.start, s.step)

  pub laid_answer : (r : PathRuns) → lay_answer j r ≡ lay_answer k r
  unfolding lay_answer
  laid_answer r = rw (fault, laid_stations)

  pub laid_runs_lem : (a : Answer ℕ) (r : PathRuns) → laid_runs a j r ≡ laid_runs a k r
  laid_runs_lem (answered n) r = rw laid_stations
  laid_runs_lem (refused n) r = refl
