-- `text::digit_count` meets its contract.
use Rattle.text.proofs.DecimalLaws.{count_power}
use mathlib.Core.Path.{sym}
use native.Mathlib.Omega.{arith}
use Rattle.text.proofs.digit_count.Goals as goal

pub returns : goal.returns
returns c = sym (count_power c.ilog10.result c.args.n (omega (arith, c.max.ensures, c.ilog10.ensures.power_le)) (omega (arith, c.max.ensures, c.ilog10.ensures.next_power_gt)))
