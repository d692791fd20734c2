-- `metres::read_metres` meets its contract: by the exponent's field the float is a number or is none.
use mathlib.Core.Path.{sym, ◌∙◌}
use Rattle.metres.specs.Bytes.{metres_at}
use Rattle.metres.proofs.Fields.{no_number, value, number, no_nan_bits}
use Rattle.metres.proofs.read_metres.Goals as goal

pub returns-then-exponent_of-eq-NOT_FINITE : goal.returns-then-exponent_of-eq-NOT_FINITE
unfolding metres_at
returns-then-exponent_of-eq-NOT_FINITE c = rw (← c.little_endian-bits.ensures) (sym (no_number _ (sym c.exponent_of.ensures ∙ c.if-exponent_of-eq-NOT_FINITE.true)))

pub float_from_bits-result : goal.float_from_bits-result
float_from_bits-result c = no_nan_bits _ (rw c.exponent_of.ensures at c.if-exponent_of-eq-NOT_FINITE.false)

pub returns : goal.returns
unfolding metres_at
returns c = rw (← c.little_endian-bits.ensures) (sym (number _ _ _ _ (value _ (rw c.exponent_of.ensures at c.if-exponent_of-eq-NOT_FINITE.false))))
