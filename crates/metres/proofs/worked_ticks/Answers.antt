-- `metres::worked_ticks` meets its contract.
use Rattle.metres.proofs.Rows.{worked}
use Rattle.metres.proofs.worked_ticks.Goals as goal

pub returns : goal.returns
returns c = worked
