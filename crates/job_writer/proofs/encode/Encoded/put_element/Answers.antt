-- `job_writer::encode::Encoded::put_element` meets its contract. Assumes nothing.
use mathlib.Core.Path.{ap}
use Rattle.number.specs.Number.{write_number}
use Rattle.job_writer.proofs.AppendLaws.{join}
use Rattle.job_writer.proofs.encode.Encoded.put_element.Goals as goal

pub returns : goal.returns
returns c = join _ (write_number c.args.e.length) _ c.put_number.ensures (rw (ap write_number c.radius_field.ensures) at c.put_number-2.ensures)
