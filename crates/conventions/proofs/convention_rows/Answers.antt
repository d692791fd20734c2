-- `conventions::convention_rows` meets its contract.
use Rattle.conventions.proofs.Rows.{convention_rows_lem}
use Rattle.conventions.proofs.convention_rows.Goals as goal

pub returns : goal.returns
returns c = convention_rows_lem
