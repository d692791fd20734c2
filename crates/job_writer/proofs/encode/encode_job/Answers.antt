-- `job_writer::encode::encode_job` meets its contract. Assumes nothing.
use Rattle.job.proofs.Arrays.{unmapped}
use Prim.Native.Nat.{◌+◌, ◌≤◌}
use native.Mathlib.Omega.{arith}
use borrow.Author.Rules.{rules}
use mathlib.Core.Path.{◌≡◌}
use mathlib.Core.List.{◌++◌}
use lib.ListN.{length}
use Rattle.number.proofs.FieldCodec.{within_most}
use Rattle.job.specs.Faults.{judge}
use Rattle.job.specs.declared.Job.{Job}
use Rattle.job.proofs.FaultLaws.{sound, sound_vehicle}
use Rattle.job_writer.specs.Write.{write_vehicle, write_start, write_path, write_job}
use Rattle.job_writer.specs.Encoding.{appended, nothing}
use Rattle.job_writer.proofs.AppendLaws.{join, first, then}
use Rattle.job_writer.proofs.AnswerLaws.{encoded_count}
use Rattle.job_writer.proofs.LengthLaws.{record_length_lem, elements_allowed}
use Rattle.job_writer.proofs.encode.encode_job.Goals as goal
use Rattle.job_writer.proofs.encode.encode_job.Goals.{After-put_path}

-- the whole record has room, as it has no fault
room : (j : Job) → judge j ≡ 0 → 0 + length (write_vehicle j.vehicle ++ (write_start j.start ++ write_path j)) ≤ 520
unfolding write_job
room j h = omega (arith, record_length_lem j h)

pub put_vehicle-requires : goal.put_vehicle-requires
put_vehicle-requires c = let j = c.args.j in
    let h = c.requires.accepted in
    let v = sound_vehicle j.vehicle (sound j h).vehicle in
    record { most = within_most (record { least = 1; most = 4 }) j.vehicle.count v.count; ends = (first (write_vehicle j.vehicle) (write_start j.start ++ write_path j) 0 (room j h)).ends }

pub put_start-requires : goal.put_start-requires
put_start-requires c = let j = c.args.j in
    first (write_start j.start) (write_path j) _ (then _ (write_vehicle j.vehicle) _ c.put_vehicle.ensures (room j c.requires.accepted)).ends

pub put_path-requires : goal.put_path-requires
put_path-requires c = let j = c.args.j in
    let h = c.requires.accepted in
    let s = sound j h in
    let m : j.count ≤ 64 = within_most (record { least = 1; most = 64 }) j.count s.count in
    let n : length j.elements ≡ 64 = search (rules, unmapped) in
    record {
      most = m;
      allowed = elements_allowed j.step j.count j.elements (omega arith) s.elements;
      ends = (then _ (write_start j.start) _ c.put_start.ensures (then _ (write_vehicle j.vehicle) _ c.put_vehicle.ensures (room j h)).ends).ends;
    }

whole : (c : After-put_path) → c.put_path.new.self ≡ appended nothing (write_job c.args.j)
unfolding write_job nothing
whole c = let j = c.args.j in
    join _ (write_vehicle j.vehicle) _ c.put_vehicle.ensures (join _ (write_start j.start) _ c.put_start.ensures c.put_path.ensures)

pub returns-clause-whole : goal.returns-clause-whole
returns-clause-whole c = whole c

pub returns-clause-within : goal.returns-clause-within
returns-clause-within c = let j = c.args.j in
    omega (arith, encoded_count c.put_path.new.self (write_job j) (whole c), record_length_lem j c.requires.accepted)
