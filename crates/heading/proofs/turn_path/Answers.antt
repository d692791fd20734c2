-- `heading::turn_path` meets its contract, refusal by refusal.
use mathlib.Core.Path.{◌≡◌, sym, ◌∙◌, ap, subst₂}
use mathlib.Core.Bool.{true}
use borrow.Author.Rules.{rules}
use borrow.Author.Tests.{leb-true}
use lib.Dec.{leb}
use lib.IntN.{pos}
use mir.Syntax.{w32, w64}
use mir.Val.{to_z, of_z}
use mir.Facts.{to_z-of_z}
use Rattle.std.proofs.lemmas.Bool.{and_parts}
use Rattle.exact.proofs.Order.{pos-≤}
use Rattle.exact.proofs.Machine.{reread}
use Rattle.plane.specs.Length.{heading_length, has_length}
use Rattle.plane.proofs.Lengths.{near_of}
use Rattle.job.specs.Allowed.{between}
use Rattle.job.specs.Curves.{radius_allowed}
use Rattle.heading.specs.PathTurn.{Steerable}
use Rattle.heading.proofs.PathAnswers.{refused_heading, refused_step_lem, refused_radius, turned_path}
use Rattle.heading.proofs.turn_path.Goals as goal
use Rattle.heading.proofs.turn_path.Goals.{After-from-2}

pub returns-then-not-has_length : goal.returns-then-not-has_length
returns-then-not-has_length c = sym (refused_heading _ _ _ (sym c.has_length.ensures ∙ c.if-not-has_length.true))

pub returns-then-not-is_within : goal.returns-then-not-is_within
returns-then-not-is_within c =
    sym (refused_step_lem _ _ _ (sym c.has_length.ensures ∙ c.if-not-has_length.false) (sym c.is_within.ensures ∙ c.if-not-is_within.true))

pub returns-then-not-radius_allowed : goal.returns-then-not-radius_allowed
returns-then-not-radius_allowed c =
    let r : to_z w32 (of_z w32 c.args.r) ≡ c.args.r = search rules in
    let unfit = sym (c.radius_allowed.ensures ∙ ap radius_allowed r) ∙ c.if-not-radius_allowed.true in
    sym (refused_radius _ _ _ (sym c.has_length.ensures ∙ c.if-not-has_length.false) (sym c.is_within.ensures ∙ c.if-not-is_within.false) unfit)

-- past the tests: what they tell, and the step and the radius, wide
module _ (c : After-from-2) where
  r : to_z w32 (of_z w32 c.args.r) ≡ c.args.r
  r = search rules

  heading : has_length c.args.g heading_length ≡ true
  heading = sym c.has_length.ensures ∙ c.if-not-has_length.false

  step : between 1 20000 c.args.s ≡ true
  step = sym c.is_within.ensures ∙ c.if-not-is_within.false

  radius : radius_allowed c.args.r ≡ true
  radius = sym (c.radius_allowed.ensures ∙ ap radius_allowed r) ∙ c.if-not-radius_allowed.false

  exact_s : reread c.from.result ≡ pos c.args.s
  exact_s = to_z-of_z {w = w64} (record { sfits = c.from.type_inv }) ∙ c.from.ensures

  exact_r : reread c.from-2.result ≡ c.args.r
  exact_r = to_z-of_z {w = w64} (record { sfits = c.from-2.type_inv }) ∙ c.from-2.ensures ∙ r

pub path_step-requires : goal.path_step-requires
path_step-requires c =
    let n = c.args.s in
    let b = and_parts (leb 1 n) (leb n 20000) (step c) in
    subst₂ (Steerable c.args.g) (sym (exact_s c)) (sym (exact_r c))
    (record {
      heading = near_of c.args.g heading_length (heading c);
      least = pos-≤ (leb-true 1 n b.0);
      most = pos-≤ (leb-true n 20000 b.1);
      radius = radius c;
    })

pub returns : goal.returns
returns c =
    let b = c.before in
    rw (c.path_step.ensures, exact_s b, exact_r b) (sym (turned_path _ _ _ (heading b) (step b) (radius b)))
