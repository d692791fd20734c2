-- `unit::construction_1988` meets its contract.
use Rattle.unit.proofs.Centre.{rule}
use Rattle.unit.proofs.construction_1988.Goals as goal

pub returns : goal.returns
returns c = rule
