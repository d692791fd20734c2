-- `metres::to_tick` meets its contract: 10,000 as the machine has it, by its bits, is 10,000.
use lib.Ieee.{of_bits}
use Rattle.exact.proofs.Machine.{reread_result}
use Rattle.metres.specs.Tick.{tick_of}
use Rattle.metres.proofs.SizeLaws.{product_sized}
use Rattle.metres.proofs.to_tick.Goals as goal

pub nearest_whole-requires : goal.nearest_whole-requires
unfolding of_bits
nearest_whole-requires c = product_sized c.args.x c.requires

pub returns : goal.returns
unfolding of_bits tick_of
returns c = reread_result c.nearest_whole.type_inv c.nearest_whole.ensures
