-- `metres::ticks_of` meets its contract.
use Rattle.exact.proofs.Machine.{reread_result}
use Rattle.metres.proofs.ticks_of.Goals as goal

pub returns : goal.returns
returns c = rw (reread_result c.to_tick.type_inv c.to_tick.ensures, reread_result c.to_tick-2.type_inv c.to_tick-2.ensures)
