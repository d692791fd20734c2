-- `number::read_sized` meets its contract. Assumes nothing.
use lib.IntN.{nat_abs}
use mathlib.Core.Path.{◌≡◌, ap, ◌∙◌}
use mir.Syntax.{w32}
use mir.Val.{to_z, of_z}
use borrow.Author.Rules.{rules}
use borrow.Author.Tests.{le-leb, lt-leb}
use Rattle.number.specs.Field.{signed_field}
use Rattle.number.proofs.read_sized.Goals as goal
use Rattle.number.proofs.read_sized.Goals.{After-unsigned_abs}

-- the size that is tested is that of the number read
size : (c : After-unsigned_abs) → c.unsigned_abs.result ≡ nat_abs c.in-Ok.z
size c = let e : to_z w32 (of_z w32 c.in-Ok.z) ≡ c.in-Ok.z = search rules in c.unsigned_abs.ensures.value ∙ ap nat_abs e

pub returns-in_default : goal.returns-in_default
unfolding signed_field
returns-in_default c = λ own. rw (← c.in_default.ensures own, c.in_default.is)

pub returns-then-unsigned_abs-most : goal.returns-then-unsigned_abs-most
unfolding signed_field
returns-then-unsigned_abs-most c = λ own. rw (← c.in-Ok.ensures own, c.in-Ok.is, ← size (goal.at.returns-then-unsigned_abs-most c).After-unsigned_abs, le-leb _ _ c.if-unsigned_abs-most.true)

pub returns : goal.returns
unfolding signed_field
returns c = λ own. rw (c.at.ensures, ← c.in-Ok.ensures own, ← size (goal.at.returns c).After-unsigned_abs, lt-leb _ _ c.if-unsigned_abs-most.false)
