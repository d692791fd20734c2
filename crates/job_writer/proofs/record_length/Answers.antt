-- `job_writer::record_length` meets its contract. Assumes nothing.
use Rattle.job_writer.proofs.ClaimLaws.{length_claim}
use Rattle.job_writer.proofs.record_length.Goals as goal

pub returns : goal.returns
returns c = length_claim
