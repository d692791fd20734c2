-- `answer_text::Text::put_signed` meets its contract.
use native.Mathlib.Omega.{arith}
use mathlib.Core.Path.{◌≡◌}
use lib.ListN.{length}
use lib.Signed.{nat_abs-le}
use mir.Syntax.{w64}
use mir.Val.{to_z, of_z}
use borrow.Author.Rules.{rules}
use Rattle.text.specs.Decimal.{signed_decimal}
use Rattle.text.proofs.DecimalLaws.{signed_64}
use Rattle.answer_text.proofs.LineLaws.{made, longer, join}
use Rattle.answer_text.proofs.Text.put_signed.Goals as goal

pub put_signed-requires : goal.put_signed-requires
put_signed-requires c =
    let n : length c.put_words-worded.result.bytes ≡ 192 = search rules in
    let kept : to_z w64 (of_z w64 c.args.z) ≡ c.args.z = search rules in
    rw kept (record { ends = omega (arith, signed_64 c.args.z (nat_abs-le c.args.z c.ranges.z.sfits), longer c.put_words-worded.ensures, c.requires.ends) })

pub returns : goal.returns
returns c =
    let w = c.put_words-worded in
    let kept : to_z w64 (of_z w64 c.args.z) ≡ c.args.z = search rules in
    join w.ensures (made w.result (signed_decimal c.args.z) 20 (rw kept at c.put_signed.ensures.0) (rw kept at c.put_signed.ensures.1) (signed_64 c.args.z (nat_abs-le c.args.z c.ranges.z.sfits)))
