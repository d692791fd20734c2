-- `text::put_signed` meets its contract: the text of either sign, by the size that the code took.
use native.Mathlib.Omega.{arith}
use native.Mathlib.Numerals.{add-one}
use mathlib.Core.Path.{ap}
use lib.ListN.{length, length-set}
use Rattle.text.proofs.SignedLaws.{negative_text, natural_text}
use Rattle.text.proofs.put_signed.Goals as goal

pub bounds-run-at : goal.bounds-run-at
bounds-run-at c =
    let below = negative_text _ _ c.ranges.z c.unsigned_abs-size.ensures.value c.if-z-lt0.true in
    omega (arith, ap length below, c.requires.ends)

pub put_decimal-requires : goal.put_decimal-requires
put_decimal-requires c =
    let below = negative_text _ _ c.ranges.z c.unsigned_abs-size.ensures.value c.if-z-lt0.true in
    record { ends = rw length-set (omega (arith, ap length below, c.requires.ends)) }

pub put_decimal-requires-else-z-lt0 : goal.put_decimal-requires-else-z-lt0
put_decimal-requires-else-z-lt0 c =
    let above = natural_text _ _ c.ranges.z c.unsigned_abs-size.ensures.value c.if-z-lt0.false in
    rw (← above) c.requires

pub returns-then-z-lt0 : goal.returns-then-z-lt0
returns-then-z-lt0 c =
    let below = negative_text _ _ c.ranges.z c.unsigned_abs-size.ensures.value c.if-z-lt0.true in
    rw below (omega (arith, c.put_decimal.ensures.0), rw add-one at c.put_decimal.ensures.1)

pub returns-else-z-lt0 : goal.returns-else-z-lt0
returns-else-z-lt0 c =
    let above = natural_text _ _ c.ranges.z c.unsigned_abs-size.ensures.value c.if-z-lt0.false in
    rw above c.put_decimal-else-z-lt0.ensures
