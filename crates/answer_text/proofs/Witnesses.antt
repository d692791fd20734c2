-- What the inner functions require can be met. Assumes nothing.
use native.Mathlib.Omega.{arith}
use Rattle.answer_text.specs.Appending.{nothing}
use Rattle.answer_text.specs.Inner.{Space}

space : Space nothing 192
unfolding nothing
space = record { ends = omega arith }
