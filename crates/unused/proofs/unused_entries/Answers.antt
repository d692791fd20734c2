-- `unused::unused_entries` meets its contract. Assumes nothing.
use Rattle.unused.proofs.Kept.{unused}
use Rattle.unused.proofs.unused_entries.Goals as goal

pub returns : goal.returns
returns c = unused
