-- `heading::heading_after` meets its contract, by the sign of the radius.
use mathlib.Core.Path.{sym, ◌∙◌, ap₂, subst₂}
use mathlib.Core.List.{[], ◌∷◌}
use lib.IntN.{ℤ}
use Rattle.exact.proofs.Polynomial.{Expr, var, lit, ◌⊖◌, ◌⊗◌}
use Rattle.exact.proofs.Machine.{Bounded, held}
use Rattle.plane.specs.declared.Vec2.{Vec2}
use Rattle.heading.specs.Turn.{turned_by, Tangent}
use Rattle.heading.specs.PathTurn.{Steerable}
use Rattle.heading.proofs.Steering.{steering_bounds, right_tangent, right_heading, left_tangent, left_heading, straight_heading}
use Rattle.heading.proofs.heading_after.Goals as goal

-- s and r
S : {g : Vec2} {s r : ℤ} → Steerable g s r → Bounded (20000 ∷ 1000000 ∷ []) (s ∷ r ∷ [])
S {g} {s} {r} t = steering_bounds g s r t

abbrev RIGHT : Expr
RIGHT = lit 2 ⊗ var 1

abbrev MS : Expr
MS = lit 0 ⊖ var 0

abbrev MR : Expr
MR = lit 2 ⊗ (lit 0 ⊖ var 1)

pub turn_heading-requires : goal.turn_heading-requires
turn_heading-requires c =
    let t = c.requires in
    subst₂ (Tangent c.args.g) (sym (held (S t) (var 0) tt)) (sym (held (S t) RIGHT tt)) (right_tangent _ _ _ t (rw (held (S t) (var 1) tt) at c.if-r-gt0.true))

pub returns-then-r-gt0 : goal.returns-then-r-gt0
returns-then-r-gt0 c =
    let s = S c.requires in
    c.turn_heading.ensures ∙ ap₂ (turned_by c.args.g) (held s (var 0) tt) (held s RIGHT tt) ∙ right_heading c.args.g c.args.s c.args.r (rw (held s (var 1) tt) at c.if-r-gt0.true)

pub turn_heading-requires-then-r-lt0 : goal.turn_heading-requires-then-r-lt0
turn_heading-requires-then-r-lt0 c =
    let t = c.requires in
    subst₂ (Tangent c.args.g) (sym (held (S t) MS tt)) (sym (held (S t) MR tt)) (left_tangent _ _ _ t (rw (held (S t) (var 1) tt) at c.if-r-lt0.true))

pub returns-then-r-lt0 : goal.returns-then-r-lt0
returns-then-r-lt0 c =
    let s = S c.requires in
    c.turn_heading-then-r-lt0.ensures ∙ ap₂ (turned_by c.args.g) (held s MS tt) (held s MR tt) ∙ left_heading c.args.g c.args.s c.args.r (rw (held s (var 1) tt) at c.if-r-lt0.true)

pub returns : goal.returns
returns c =
    let r = held (S c.requires) (var 1) tt in
    straight_heading c.args.g c.args.s c.args.r (rw r at c.if-r-gt0.false) (rw r at c.if-r-lt0.false)
