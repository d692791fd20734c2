-- `touching::touches_near` meets its contract: every direction is moderate, so each product fits.
use mathlib.Core.Path.{sym, ◌∙◌, ap, subst}
use mathlib.Core.Bool.{Bool, false≢true}
use Rattle.plane.specs.declared.Vec2.{Vec2}
use Rattle.plane.specs.Vector.{right_normal, Moderate}
use Rattle.touching.specs.Touch.{overlap, touches}
use Rattle.touching.proofs.Sights.{minus_moderate, across_moderate}
use Rattle.touching.proofs.touches_near.Goals as goal
use Rattle.touching.proofs.touches_near.Goals.{then-overlap, else-overlap}

pub right_normal-across_ab-requires : goal.right_normal-across_ab-requires
right_normal-across_ab-requires c = let t = c.requires in subst Moderate (sym c.minus.ensures) (minus_moderate t.first_from t.first_to)

pub right_normal-across_cd-requires : goal.right_normal-across_cd-requires
right_normal-across_cd-requires c = let t = c.requires in subst Moderate (sym c.minus-2.ensures) (minus_moderate t.second_from t.second_to)

pub overlap-requires : goal.overlap-requires
overlap-requires c =
    let t = c.requires in
    let ab = c.right_normal-across_ab.ensures ∙ ap right_normal c.minus.ensures in
    rw ab (record { direction = across_moderate t.first_from t.first_to; segments = t })

pub overlap-requires-then-overlap : goal.overlap-requires-then-overlap
overlap-requires-then-overlap c =
    let t = c.requires in
    let cd = c.right_normal-across_cd.ensures ∙ ap right_normal c.minus-2.ensures in
    rw cd (record { direction = across_moderate t.second_from t.second_to; segments = t })

pub overlap-requires-then-overlap-2 : goal.overlap-requires-then-overlap-2
overlap-requires-then-overlap-2 c = let t = c.requires in rw c.minus-from_a_to_c.ensures (record { direction = minus_moderate t.first_from t.second_from; segments = t })

pub returns-then-overlap-2 : goal.returns-then-overlap-2
unfolding touches
returns-then-overlap-2 c =
    let a = c.args in
    let seen : Vec2 → Bool = λ m. overlap m a.a a.b a.c a.d in
    let ab = c.right_normal-across_ab.ensures ∙ ap right_normal c.minus.ensures in
    let cd = c.right_normal-across_cd.ensures ∙ ap right_normal c.minus-2.ensures in
    elim c.if-overlap.branch [
      | then-overlap w ↦
          let first = sym (c.overlap.ensures ∙ ap seen ab) ∙ w.if-overlap.true in
          let second = sym (w.overlap-then-overlap.ensures ∙ ap seen cd) ∙ sym w.value-is ∙ c.if-overlap-2.true in
          rw (first, second) (c.overlap-then-overlap-2.ensures ∙ ap seen c.minus-from_a_to_c.ensures)
      | else-overlap w ↦ absurd (false≢true (sym w.if-overlap.false ∙ sym w.value-is ∙ c.if-overlap-2.true))
    ]

pub returns-else-overlap-2 : goal.returns-else-overlap-2
unfolding touches
returns-else-overlap-2 c =
    let a = c.args in
    let seen : Vec2 → Bool = λ m. overlap m a.a a.b a.c a.d in
    let ab = c.right_normal-across_ab.ensures ∙ ap right_normal c.minus.ensures in
    let cd = c.right_normal-across_cd.ensures ∙ ap right_normal c.minus-2.ensures in
    elim c.if-overlap.branch [
      | then-overlap w ↦
          let first = sym (c.overlap.ensures ∙ ap seen ab) ∙ w.if-overlap.true in
          let second = sym (w.overlap-then-overlap.ensures ∙ ap seen cd) ∙ sym w.value-is ∙ c.if-overlap-2.false in
          rw (first, second) c.if-overlap-2.false
      | else-overlap w ↦
          let first = sym (c.overlap.ensures ∙ ap seen ab) ∙ w.if-overlap.false in
          rw first c.if-overlap-2.false
    ]
