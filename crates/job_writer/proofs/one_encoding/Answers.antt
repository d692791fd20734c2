-- `job_writer::one_encoding` meets its contract. Assumes nothing.
use Rattle.job_writer.proofs.ClaimLaws.{one_encoding_lem}
use Rattle.job_writer.proofs.one_encoding.Goals as goal

pub returns : goal.returns
returns c = one_encoding_lem
