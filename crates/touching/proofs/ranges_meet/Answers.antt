-- `touching::ranges_meet` meets its contract: each of the two tests says what the four comparisons of `some_at_most` say.
use mathlib.Core.Path.{sym, ◌∙◌}
use Rattle.touching.specs.Touch.{ranges_meet}
use Rattle.touching.proofs.Ranges.{ends_told}
use Rattle.touching.proofs.ranges_meet.Goals as goal

pub returns-then-min-max : goal.returns-then-min-max
unfolding ranges_meet
returns-then-min-max c =
    let r = c.ranges in
    let first = ends_told _ _ _ _ _ _ r.a r.b r.c r.d c.min.type_inv c.max.type_inv c.min.ensures.value c.max.ensures.value in
    rw (sym first ∙ c.if-min-max.true) (ends_told _ _ _ _ _ _ r.c r.d r.a r.b c.min-then-min-max.type_inv c.max-then-min-max.type_inv c.min-then-min-max.ensures.value c.max-then-min-max.ensures.value)

pub returns-else-min-max : goal.returns-else-min-max
unfolding ranges_meet
returns-else-min-max c =
    let r = c.ranges in
    let first = ends_told _ _ _ _ _ _ r.a r.b r.c r.d c.min.type_inv c.max.type_inv c.min.ensures.value c.max.ensures.value in
    rw (c.if-min-max.false, sym first ∙ c.if-min-max.false)
