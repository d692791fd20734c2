-- `text::read_decimal` meets its contract: what is left of the text, after the value so far, reads as the whole does.
use Rattle.text.proofs.ReadingLaws.{Reading}
use Rattle.text.proofs.read_decimal.Given as goal

abbrev pub invariant-loop-b : goal.invariant-loop-b
invariant-loop-b l = Reading l.bytes l.value l.b-index
