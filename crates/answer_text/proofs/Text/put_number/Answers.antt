-- `answer_text::Text::put_number` meets its contract.
use native.Mathlib.Omega.{arith}
use mathlib.Core.Path.{◌≡◌}
use lib.ListN.{length}
use borrow.Author.Rules.{rules}
use Rattle.text.specs.Decimal.{decimal}
use Rattle.text.proofs.DecimalLaws.{decimal_64}
use Rattle.answer_text.proofs.LineLaws.{made, longer, join}
use Rattle.answer_text.proofs.Text.put_number.Goals as goal

pub put_decimal-requires : goal.put_decimal-requires
put_decimal-requires c =
    let n : length c.put_words-worded.result.bytes ≡ 192 = search rules in
    record { ends = omega (arith, decimal_64 c.args.n c.ranges.n.fits, longer c.put_words-worded.ensures, c.requires.ends) }

pub returns : goal.returns
returns c =
    let w = c.put_words-worded in
    join w.ensures (made w.result (decimal c.args.n) 20 c.put_decimal.ensures.0 c.put_decimal.ensures.1 (decimal_64 c.args.n c.ranges.n.fits))
