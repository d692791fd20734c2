-- `marks::with_bit` meets its contract.
use Rattle.marks.proofs.Bits.{set_bit}
use Rattle.marks.proofs.with_bit.Goals as goal

pub returns : goal.returns
returns c = set_bit c.args.p c.args.mark c.requires.place
