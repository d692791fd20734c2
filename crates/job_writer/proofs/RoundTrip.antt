-- A job has one encoding: what was written is read back, and what was read is written as it was. Assumes nothing.
use Prim.Native.Nat.{ℕ, ◌+◌, ◌≤◌}
use mathlib.Core.Path.{◌≡◌, refl, sym, ◌∙◌, subst}
use mathlib.Core.List.{List, [], ◌∷◌, ◌++◌, map, append-nil}
use native.Mathlib.Omega.{arith}
use native.Mathlib.Nat.{zero-add}
use lib.ListN.{length, take, drop, length-take, drop_of_length-le}
use lib.Seq.{sets}
use lib.Dec.{eqb}
use borrow.Author.Tests.{eq-eqb, eqb-true}
use Rattle.number.specs.Read.{Bytes, got, write_many}
use Rattle.number.proofs.Codec.{first, chosen}
use Rattle.number.proofs.CodecMany.{take_sets}
use Rattle.number.proofs.FieldCodec.{within_most}
use Rattle.job.specs.Faults.{elements_fault, judge}
use Rattle.job.specs.Empty.{empty_elements, cleared_unit, cleared_vehicle, cleared}
use Rattle.job.specs.declared.Form.{Form}
use Rattle.job.specs.declared.Form.TheVariants.{Short, Long}
use Rattle.job.specs.declared.Unit.{Unit as VehicleUnit}
use Rattle.job.specs.declared.Job.{Job}
use Rattle.job.proofs.ClearedLaws.{units_once, used_cleared, units_cleared}
use Rattle.job.proofs.FaultLaws.{SoundVehicle, sound_vehicle, vehicle_sound_lem, Sound, sound, job_sound}
use Rattle.job_reader.specs.Record.{read_record, read_end, read_job}
use Rattle.job_writer.specs.Write.{write_unit, write_job}
use Rattle.job_writer.proofs.RecordCodec.{sixty_four, job}

pub written_read : (j : Job) → judge j ≡ 0 → j ≡ cleared j → read_job (write_job j) ≡ got j (length (write_job j))
unfolding read_job
written_read j h c =
    let e : read_record (write_job j) 0 ≡ got j (0 + length (write_job j)) = job.there j (h, c) (write_job j) 0 [] (sym (append-nil (write_job j))) in
    rw (e, zero-add, eq-eqb (length (write_job j)) (length (write_job j)) refl)

pub record Back (s : List ℕ) (j : Job) (e : ℕ) : Type 0 where
  pub judged : judge j ≡ 0
  pub empty : j ≡ cleared j
  pub written : write_job j ≡ s
  pub ended : e ≡ length s

pub read_written : (s : List ℕ) (j : Job) (e : ℕ) → Bytes s → read_job s ≡ got j e → Back s j e
unfolding read_job
read_written s j e bs h =
    let f = first (read_record s 0) (λ a x. read_end a s x) j e h in
    let m = chosen (eqb f.next (length s)) refl f.value f.next 10 f.next j e f.then in
    let k = job.back s 0 f.value f.next bs f.reads in
    let n : f.next ≡ length s = eqb-true f.next (length s) m.0 in
    let d : s ≡ write_job f.value ++ drop f.next s = k.1 in
    let z : drop f.next s ≡ [] = drop_of_length-le s {i = f.next} (omega arith) in
    let o = subst (λ (a : Job). (judge a ≡ 0) × (a ≡ cleared a)) m.1 k.0 in
    record { judged = o.0; empty = o.1; written = sym (append-nil (write_job j)) ∙ sym (d ∙ cc); ended = sym m.2 ∙ n }

-- the first entries of an array survive when the others are emptied
pub kept : {A : Type 0} (l us : List A) (n m : ℕ) → length l ≡ m → length us ≡ m → n ≤ m → take n (sets l 0 (take n us)) ≡ take n us
kept l us n m p q h = take_sets l (take n us) n (omega (arith, length-take n us)) (omega arith)

-- a body that is cleared is not written either
unit_written : (form : Form) (u : VehicleUnit) → write_unit form (cleared_unit form u) ≡ write_unit form u
unit_written Short u = refl
unit_written Long u = refl

pub units_written : (form : Form) (us : List VehicleUnit) → write_many (write_unit form) (map (cleared_unit form) us) ≡ write_many (write_unit form) us
unfolding write_many
units_written form [] = refl
units_written form (u ∷ us) = rw (unit_written form u, units_written form us)

-- emptying what is not in use changes neither the fault nor the bytes, and once is enough
pub record Same (j : Job) : Type 0 where
  pub judged : judge (cleared j) ≡ 0
  pub written : write_job (cleared j) ≡ write_job j
  pub once : cleared j ≡ cleared (cleared j)

pub cleared_same : (j : Job) → length j.vehicle.units ≡ 4 → length j.elements ≡ 64 → judge j ≡ 0 → Same j
cleared_same j p q h =
    let s = sound j h in
    let v = sound_vehicle j.vehicle s.vehicle in
    let f = j.vehicle.form in
    let n = j.vehicle.count in
    let m = within_most (record { least = 1; most = 4 }) n v.count in
    let us = used_cleared f n j.vehicle.units p m in
    let es = kept empty_elements j.elements j.count 64 sixty_four q (within_most (record { least = 1; most = 64 }) j.count s.count) in
    let v₂ : SoundVehicle (cleared_vehicle j.vehicle) = record { count = v.count; units = units_cleared f n j.vehicle.units p m ∙ v.units; widths = v.widths } in
    let s₂ : Sound (cleared j) = record {
      vehicle = vehicle_sound_lem (cleared_vehicle j.vehicle) v₂;
      start = s.start;
      step = s.step;
      count = s.count;
      elements = unfold elements_fault in (rw es s.elements);
    } in
    record {
      judged = job_sound (cleared j) s₂;
      written = unfold write_job in (rw (us, units_written f (take n j.vehicle.units), es));
      once = sym (rw (us, units_once f (take n j.vehicle.units), es));
    }
