-- `job_writer::encode::Encoded::put_path` meets its contract. Assumes nothing.
use Rattle.number.specs.Number.{write_number}
use Rattle.job_writer.proofs.AppendLaws.{join}
use Rattle.job_writer.proofs.encode.Encoded.put_path.Goals as goal

pub returns : goal.returns
returns c = let j = c.args.j in
    join _ (write_number j.step) _ c.put_number.ensures (join _ (write_number j.count) _ c.put_number-2.ensures c.put_elements.ensures)
