-- `worked::worked_rows` meets its contract.
use Rattle.worked.proofs.Rows.{worked_rows_lem}
use Rattle.worked.proofs.worked_rows.Goals as goal

pub returns : goal.returns
returns c = worked_rows_lem
