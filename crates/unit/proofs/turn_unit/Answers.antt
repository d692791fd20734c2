-- `unit::turn_unit` meets its contract: each way out is one of the answers of `unit_turn`, by the tests that led there.
use mathlib.Core.Path.{◌≡◌, sym, ◌∙◌, ap, subst}
use mathlib.Core.Bool.{true}
use borrow.Author.Rules.{rules}
use lib.IntN.{pos}
use Rattle.exact.proofs.Machine.{reread}
use Rattle.refusal.specs.Numbers.{answered}
use Rattle.plane.specs.Wheelbase.{is_wheelbase}
use Rattle.plane.specs.Length.{has_length}
use Rattle.unit.specs.Turn.{turned_by, too_far, Turnable}
use Rattle.unit.proofs.UnitTests.{wheelbase_of_lem, turnable_of, refused_wheelbase, refused_length, refused_far, accepted}
use Rattle.unit.proofs.turn_unit.Goals as goal
use Rattle.unit.proofs.turn_unit.Goals.{After-moves_too_far, then-not-wheelbase_allowed-via-then-not-wheelbase_allowed, then-not-wheelbase_allowed-via-else-not-wheelbase_allowed+then-not-has_length}

-- what the tests tell
module _ (c : After-moves_too_far) where
  l : reread c.from-l.result ≡ pos c.args.wheelbase
  l = search rules

  allowed : is_wheelbase c.args.wheelbase ≡ true
  allowed = sym c.wheelbase_allowed.ensures ∙ c.if-not-wheelbase_allowed.false

  sound : has_length c.args.d (pos c.args.wheelbase) ≡ c.has_length.result
  sound = sym (c.has_length.ensures ∙ ap (has_length c.args.d) l)

  far : too_far c.args.f (pos c.args.wheelbase) ≡ c.moves_too_far.result
  far = sym (c.moves_too_far.ensures ∙ ap (too_far c.args.f) l)

pub returns-then-not-wheelbase_allowed : goal.returns-then-not-wheelbase_allowed
returns-then-not-wheelbase_allowed c =
    let l : reread c.from-l.result ≡ pos c.args.wheelbase = search rules in
    elim c.then-not-wheelbase_allowed.branch [
      | then-not-wheelbase_allowed-via-then-not-wheelbase_allowed w ↦ sym (refused_wheelbase _ _ _ (sym c.wheelbase_allowed.ensures ∙ w.if-not-wheelbase_allowed.true))
      | then-not-wheelbase_allowed-via-else-not-wheelbase_allowed+then-not-has_length w ↦
          let unsound = sym (w.has_length.ensures ∙ ap (has_length c.args.d) l) ∙ w.if-not-has_length.true in
          sym (refused_length _ _ _ unsound (sym c.wheelbase_allowed.ensures ∙ w.if-not-wheelbase_allowed.false))
    ]

pub returns-then-moves_too_far : goal.returns-then-moves_too_far
returns-then-moves_too_far c = let t = c.before in sym (refused_far _ _ _ (far t ∙ c.if-moves_too_far.true) (allowed t) (sound t ∙ c.if-not-has_length.false))

pub turned-requires : goal.turned-requires
turned-requires c =
    let t = c.before in
    let a = t.args in
    let passed = turnable_of a.d a.f (pos a.wheelbase) (wheelbase_of_lem a.wheelbase (allowed t)) (sound t ∙ c.if-not-has_length.false) (far t ∙ c.if-moves_too_far.false) in
    subst (Turnable a.d a.f) (sym (l t)) passed

pub returns : goal.returns
returns c =
    let t = c.before.before in
    let a = t.args in
    let whole = accepted a.d a.f a.wheelbase (far t ∙ c.if-moves_too_far.false) (allowed t) (sound t ∙ c.if-not-has_length.false) in
    ap answered (c.turned.ensures ∙ ap (turned_by a.d a.f) (l t)) ∙ sym whole
