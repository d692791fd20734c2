-- The claims about reading and writing jobs. Assumes nothing.
use Prim.Native.Nat.{ℕ, zero, suc, ◌≤◌}
use mathlib.Core.Path.{◌≡◌, refl, sym, ◌∙◌, ap, subst}
use mathlib.Core.List.{List}
use native.Mathlib.Omega.{arith}
use lib.ListN.{length, take}
use lib.Seq.{sets}
use lib.Dec.{leb}
use Rattle.std.specs.Prelude.{Ok}
use borrow.Author.Tests.{le-leb, leb-true}
use Rattle.number.specs.Read.{Bytes, got}
use Rattle.number.proofs.CodecMany.{take_sets}
use Rattle.job.specs.Faults.{or_fault, judge}
use Rattle.job.specs.Empty.{empty_units, empty_elements, cleared}
use Rattle.job.specs.declared.Job.{Job}
use Rattle.job.proofs.FaultLaws.{first_none, or_none}
use Rattle.job_reader.specs.Worked.{worked_record}
use Rattle.job_reader.specs.Record.{read_job}
use Rattle.job_reader.specs.Answers.{ReadEnsures}
use Rattle.job_reader.proofs.AnswerLaws.{same_answer}
use Rattle.job_reader.proofs.Rows.{worked_job, worked_read}
use Rattle.job_writer.specs.Write.{write_job}
use Rattle.job_writer.specs.Answers.{write_fault, wrote, WriteEnsures}
use Rattle.job_writer.specs.Claims.{OneEncoding, RecordLength}
use Rattle.std.specs.Prelude.{Result, Ok}
use Rattle.refusal.specs.declared.Fault.{Fault}
use Rattle.refusal.specs.Numbers.{answered}
use Rattle.job_writer.proofs.AnswerLaws.{told}
use Rattle.job_writer.proofs.LengthLaws.{record_length_lem}
use Rattle.job_writer.proofs.RecordCodec.{job}
use Rattle.job_writer.proofs.RoundTrip.{Back, written_read, read_written, cleared_same}
use Rattle.job_writer.proofs.Reach.{first_bytes_lem}
use Rattle.job_writer.proofs.Witnesses.{worked_judged, worked_written}

-- what was read has no fault, and is written as it was
pub back : (s : List ℕ) (j : Job) → ReadEnsures s (Ok j) → Back s j (length s)
back s j h = read_written s j (length s) h.bytes (sym h.answer)

-- bytes were written where there was no fault
made : (f n m : ℕ) → answered n ≡ wrote f m → (f ≡ 0) × (n ≡ m)
made zero n m p = (refl, cc)
made (suc f) n m p = absurd (let z : ◌≡◌ {A = ℕ} 0 1 = cc in omega arith)

-- no fault and room: written
written : (j : Job) (before : List ℕ) (w : Result ℕ Fault) (after : List ℕ) → WriteEnsures j before w after → judge j ≡ 0 → length (write_job j) ≤ length before
    → (w ≡ Ok (length (write_job j))) × (after ≡ sets before 0 (write_job j))
written j before w after k h l =
    let f : write_fault j (length before) ≡ 0 = rw (h, le-leb (length (write_job j)) (length before) l) in
    (told w (length (write_job j)) (k.answer ∙ rw f), k.written ∙ rw f)

-- the record of a job without a fault is read as that job, its unused entries emptied
read_cleared : (j : Job) → length j.vehicle.units ≡ 4 → length j.elements ≡ 64 → judge j ≡ 0 → read_job (write_job j) ≡ got (cleared j) (length (write_job (cleared j)))
read_cleared j u e h =
    let c = cleared_same j u e h in
    ap read_job (sym c.written) ∙ written_read (cleared j) c.judged c.once

worked_empty : worked_job ≡ cleared worked_job
unfolding worked_job empty_units empty_elements
worked_empty = refl

worked_bytes : Bytes worked_record
worked_bytes = subst Bytes worked_written (job.bytes worked_job (worked_judged, worked_empty))

pub one_encoding_lem : OneEncoding
one_encoding_lem = record {
  written = λ j before w after k h l.
      let room : length (write_job j) ≤ length before = omega arith in
      written j before w after k h room;
  bytes = λ j u e h. let c = cleared_same j u e h in subst Bytes c.written (job.bytes (cleared j) (c.judged, c.once));
  accepted = λ j u e h r k. same_answer _ _ r (Ok (cleared j)) (k.answer ∙ read_cleared j u e h);
  worked = (worked_job, record { answer = sym worked_read; bytes = worked_bytes });
  write_after_read = λ s j h before w after k l.
      let b = back s j h in
      let n : length (write_job j) ≤ length before = omega (arith, ap length b.written) in
      let m = written j before w after k b.judged n in
      (m.0 ∙ rw b.written, m.1 ∙ rw b.written);
  read_after_write = λ j before n after k r h.
      let m = made (write_fault j (length before)) n (length (write_job j)) k.answer in
      let f = first_none (judge j) (or_fault (leb (length (write_job j)) (length before)) 28 0) m.0 in
      let l : length (write_job j) ≤ length before = leb-true (length (write_job j)) (length before) (or_none (leb (length (write_job j)) (length before)) 27 0 f.1).0 in
      let a : after ≡ sets before 0 (write_job j) = k.written ∙ rw m.0 in
      let t : take n after ≡ write_job j = rw (a, m.1) (take_sets before (write_job j) (length (write_job j)) refl l) in
      same_answer _ _ r (Ok (cleared j)) (h.answer ∙ ap read_job t ∙ read_cleared j k.units k.elements f.0);
  one = λ s t j h k. sym (back s j h).written ∙ (back t j k).written;
}

pub length_claim : RecordLength
length_claim = record {
  longest = λ s j h.
      let b = back s j h in
      omega (arith, record_length_lem j b.judged, ap length b.written);
  by_value = record_length_lem;
  under = omega arith;
  room = λ j before w after k h l. (written j before w after k h (omega (arith, record_length_lem j h))).0;
  enough = λ s r q h k. same_answer _ _ r q (h.answer ∙ sym (first_bytes_lem 1024 s (omega arith)) ∙ sym k.answer);
}
