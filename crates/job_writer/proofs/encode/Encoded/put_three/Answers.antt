-- `job_writer::encode::Encoded::put_three` meets its contract. Assumes nothing.
use Rattle.number.specs.Number.{write_number}
use Rattle.job_writer.proofs.AppendLaws.{join}
use Rattle.job_writer.proofs.encode.Encoded.put_three.Goals as goal

pub returns : goal.returns
returns c = let a = c.args in
    join _ (write_number a.x) _ c.put_number.ensures (join _ (write_number a.y) _ c.put_number-2.ensures c.put_number-3.ensures)
