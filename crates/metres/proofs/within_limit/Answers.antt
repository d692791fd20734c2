-- `metres::within_limit` meets its contract.
use Rattle.metres.proofs.SizeLaws.{within_limit_lem}
use Rattle.metres.proofs.within_limit.Goals as goal

pub returns : goal.returns
returns c = rw c.abs.ensures.value (within_limit_lem c.args.x)
