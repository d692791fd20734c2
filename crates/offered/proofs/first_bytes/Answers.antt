-- `offered::first_bytes` meets its contract.
use mathlib.Core.Path.{sym, ap}
use native.Mathlib.Omega.{arith}
use Rattle.number.specs.Read.{Read}
use Rattle.job.specs.declared.Job.{Job}
use Rattle.job_writer.proofs.Reach.{first_bytes_lem}
use Rattle.swept.specs.Claims.{bytes_read}
use Rattle.offered.specs.Offered.{offered_read, offered_of}
use Rattle.offered.specs.Claims.{FirstBytes}
use Rattle.offered.proofs.first_bytes.Goals as goal

decided : FirstBytes
unfolding offered_of
decided s b = ap (λ (r : Read Job). offered_read r b) (sym (first_bytes_lem bytes_read s (omega arith)))

pub returns : goal.returns
returns c = decided
