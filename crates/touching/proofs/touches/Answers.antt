-- `touching::touches` meets its contract: where the ranges of x or of y have nothing in common, the segments do not touch.
use mathlib.Core.Path.{◌≡◌, sym, ◌∙◌}
use borrow.Author.Rules.{rules}
use lib.IntN.{ℤ}
use Rattle.exact.proofs.Machine.{reread}
use Rattle.touching.proofs.Apart.{apart_x, apart_y}
use Rattle.touching.proofs.touches.Goals as goal
use Rattle.touching.proofs.touches.Goals.{then-ranges_meet, else-ranges_meet}

-- what the two tests tell: each coordinate is read back as it is
abbrev Exact : ℤ → Type 0
Exact z = reread z ≡ z

pub returns-else-ranges_meet-2 : goal.returns-else-ranges_meet-2
returns-else-ranges_meet-2 c =
    let a = c.args in
    elim c.if-ranges_meet.branch [
      | then-ranges_meet w ↦
          let ea : Exact a.a.y = search rules in
          let eb : Exact a.b.y = search rules in
          let ec : Exact a.c.y = search rules in
          let ed : Exact a.d.y = search rules in
          let apart = sym (w.ranges_meet-then-ranges_meet.ensures ∙ rw (ea, eb, ec, ed)) ∙ sym w.value-is ∙ c.if-ranges_meet-2.false in
          c.if-ranges_meet-2.false ∙ sym (apart_y a.a a.b a.c a.d apart)
      | else-ranges_meet w ↦
          let ea : Exact a.a.x = search rules in
          let eb : Exact a.b.x = search rules in
          let ec : Exact a.c.x = search rules in
          let ed : Exact a.d.x = search rules in
          let apart = sym (c.ranges_meet.ensures ∙ rw (ea, eb, ec, ed)) ∙ w.if-ranges_meet.false in
          c.if-ranges_meet-2.false ∙ sym (apart_x a.a a.b a.c a.d apart)
    ]
