-- `claim::never_written` meets its contract.
use Rattle.claim.proofs.NeverLaws.{never_written_lem}
use Rattle.claim.proofs.never_written.Goals as goal

pub returns : goal.returns
returns c = never_written_lem
