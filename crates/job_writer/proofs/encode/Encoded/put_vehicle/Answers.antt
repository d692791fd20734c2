-- `job_writer::encode::Encoded::put_vehicle` meets its contract. Assumes nothing.
use lib.ListN.{take}
use Rattle.number.specs.Read.{write_many}
use Rattle.number.specs.Number.{write_number}
use Rattle.job.specs.Announced.{announcing}
use Rattle.job_writer.specs.Write.{write_unit}
use Rattle.job_writer.proofs.AppendLaws.{join}
use Rattle.job_writer.proofs.encode.Encoded.put_vehicle.Goals as goal

pub returns : goal.returns
returns c = let v = c.args.v in
    join _ (write_number (announcing v.form v.count)) _ (rw c.announcing.ensures at c.put_number.ensures)
    (join _ (write_many (write_unit v.form) (take v.count v.units)) _ c.put_units.ensures c.put_widths.ensures)
