-- `swept::first_bytes` meets its contract.
use mathlib.Core.Path.{sym, ◌∙◌, ap}
use native.Mathlib.Omega.{arith}
use Rattle.job_writer.proofs.Reach.{first_bytes_lem}
use Rattle.swept.specs.Swept.{swept_read, swept_of}
use Rattle.swept.specs.Claims.{bytes_read, FirstBytes}
use Rattle.swept.proofs.first_bytes.Goals as goal

decided : FirstBytes
unfolding swept_of
decided s r q told first = told.answer ∙ ap swept_read (sym (first_bytes_lem bytes_read s (omega arith))) ∙ sym first.answer

pub returns : goal.returns
returns c = decided
