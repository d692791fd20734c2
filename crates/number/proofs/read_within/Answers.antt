-- `number::read_within` meets its contract. Assumes nothing.
use mathlib.Core.Path.{sym, ◌∙◌}
use Rattle.number.specs.Field.{field}
use Rattle.number.proofs.read_within.Goals as goal

pub returns-in_default : goal.returns-in_default
unfolding field
returns-in_default c = λ own. rw (← c.in_default.ensures own, c.in_default.is)

pub returns-then-is_within : goal.returns-then-is_within
unfolding field
returns-then-is_within c = λ own. rw (← c.in-Ok.ensures own, c.in-Ok.is, sym c.is_within.ensures ∙ c.if-is_within.true)

pub returns : goal.returns
unfolding field
returns c = λ own. rw (c.at.ensures, ← c.in-Ok.ensures own, sym c.is_within.ensures ∙ c.if-is_within.false)
