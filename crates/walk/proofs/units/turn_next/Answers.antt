-- `walk::units::turn_next` meets its contract: 22, then 23, then the new vector.
use mathlib.Core.Path.{◌≡◌, refl, sym, ◌∙◌, ap, ap₂, subst, subst₂}
use mathlib.Core.Bool.{Bool}
use borrow.Author.Rules.{rules}
use Rattle.std.specs.Prelude.{Option, None, Some}
use Rattle.exact.proofs.Machine.{reread}
use Rattle.plane.specs.declared.Vec2.{Vec2}
use Rattle.plane.specs.Vector.{minus}
use Rattle.unit.specs.Turn.{turned_by, too_far, Turnable}
use Rattle.walk.specs.declared.units.Lead.{Lead}
use Rattle.walk.specs.Units.{wheelbase_of, Ahead, none, behind, fold_kept}
use Rattle.walk.specs.Inner.{next_turn, ahead_of, AheadDrawn, FoldReady}
use Rattle.walk.proofs.DrawLaws.{turnable, drawn_again}
use Rattle.walk.proofs.units.turn_next.Goals as goal
use Rattle.walk.proofs.units.turn_next.Goals.{After-moves_too_far}

-- the move and the wheelbase, wide, whether it is too far, and the new vector
module _ (c : After-moves_too_far) where
  abbrev f : Vec2
  f = minus c.args.new c.args.old

  base : reread c.from-l.result ≡ wheelbase_of c.args.u
  base = search rules

  far : {t : Bool} → c.moves_too_far.result ≡ t → too_far f (wheelbase_of c.args.u) ≡ t
  far e = sym (c.moves_too_far.ensures ∙ ap₂ too_far c.minus-f.ensures base) ∙ e

  turn : {x : Vec2} → x ≡ turned_by c.args.d c.minus-f.result (reread c.from-l.result) → x ≡ turned_by c.args.d f (wheelbase_of c.args.u)
  turn e = e ∙ ap₂ (turned_by c.args.d) c.minus-f.ensures base

  kept : {x : Vec2} {t : Bool} (a : Ahead) → x ≡ turned_by c.args.d f (wheelbase_of c.args.u) → t ≡ fold_kept a c.args.u x → fold_kept a c.args.u (turned_by c.args.d f (wheelbase_of c.args.u)) ≡ t
  kept a e k = sym (k ∙ ap (fold_kept a c.args.u) e)

pub returns-then-moves_too_far : goal.returns-then-moves_too_far
unfolding next_turn
returns-then-moves_too_far c = let m = (goal.at.returns-then-moves_too_far c).After-moves_too_far in rw (far m c.if-moves_too_far.true)

pub turned-t-requires : goal.turned-t-requires
turned-t-requires c =
    let m = (goal.at.turned-t-requires c).After-moves_too_far in
    subst₂ (Turnable c.args.d) (sym c.minus-f.ensures) (sym (base m)) (turnable c.requires.unit (f m) (far m c.if-moves_too_far.false))

-- the unit ahead, where there is one
pub fold_kept-requires : goal.fold_kept-requires
fold_kept-requires c =
    let m = (goal.at.fold_kept-requires c).After-moves_too_far in
    let a = c.in-Some.lead in
    subst (FoldReady a.unit a.d c.args.u) (sym (turn m c.turned-t.ensures))
    (record { lead = subst (λ (z : Option Lead). AheadDrawn (ahead_of z)) c.in-Some.is c.requires.lead; unit = drawn_again c.requires.unit _ (far m c.if-moves_too_far.false) })

pub returns-then-not-fold_kept : goal.returns-then-not-fold_kept
unfolding next_turn
returns-then-not-fold_kept c =
    let m = (goal.at.returns-then-not-fold_kept c).After-moves_too_far in
    let a = c.in-Some.lead in
    let t = turn m c.turned-t.ensures in
    rw (c.in-Some.is, far m c.if-moves_too_far.false, kept m (behind a.unit a.d) t c.fold_kept.ensures ∙ c.if-not-fold_kept.true)

pub returns-else-not-fold_kept : goal.returns-else-not-fold_kept
unfolding next_turn
returns-else-not-fold_kept c =
    let m = (goal.at.returns-else-not-fold_kept c).After-moves_too_far in
    let a = c.in-Some.lead in
    let t = turn m c.turned-t.ensures in
    rw (c.in-Some.is, far m c.if-moves_too_far.false, kept m (behind a.unit a.d) t c.fold_kept.ensures ∙ c.if-not-fold_kept.false, t)

-- none is ahead of the first
alone : (a : Option Lead) → ((l : Lead) → a ≡ Some l → ⊥) → ahead_of a ≡ none
alone None h = refl
alone (Some l) h = absurd (h l refl)

pub returns-in_default : goal.returns-in_default
unfolding next_turn
returns-in_default c =
    let m = (goal.at.returns-in_default c).After-moves_too_far in
    rw (alone c.args.ahead c.in_default.not-Some, far m c.if-moves_too_far.false, turn m c.turned-t.ensures)
