-- `job_writer::encode::Encoded::put_elements` meets its contract. Assumes nothing.
use Rattle.job_writer.specs.Write.{write_element}
use Rattle.job_writer.proofs.AppendLaws.{Run}
use Rattle.job_writer.proofs.encode.Encoded.put_elements.Given as goal

abbrev pub invariant-loop-e : goal.invariant-loop-e
invariant-loop-e l = Run write_element l.elements l.initial.self l.self l.e-index
