-- `job_writer::encode::Encoded::put_units` meets its contract. Assumes nothing.
use Rattle.job_writer.specs.Write.{write_unit}
use Rattle.job_writer.proofs.AppendLaws.{Run}
use Rattle.job_writer.proofs.encode.Encoded.put_units.Given as goal

abbrev pub invariant-loop-u : goal.invariant-loop-u
invariant-loop-u l = Run (write_unit l.form) l.units l.initial.self l.self l.u-index
