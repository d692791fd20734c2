-- `unit::moves_too_far` meets its contract: inside the box nothing overflows, and outside it every move is too far.
use mathlib.Core.Path.{◌≡◌, sym, ◌∙◌, ap, ap₂}
use borrow.Author.Rules.{rules}
use lib.Signed.{lt_z}
use Rattle.exact.proofs.Polynomial.{var, ◌⊗◌}
use Rattle.exact.proofs.Machine.{none, ◌∷ᵇ◌, reread, held}
use Rattle.plane.specs.Vector.{norm_sq}
use Rattle.plane.specs.Length.{in_box}
use Rattle.plane.proofs.Lengths.{box_moderate}
use Rattle.unit.specs.Turn.{too_far}
use Rattle.unit.proofs.Turning.{wheelbase_nominal}
use Rattle.unit.proofs.UnitSizes.{wheelbase_sized}
use Rattle.unit.proofs.UnitTests.{outside_far}
use Rattle.unit.proofs.moves_too_far.Goals as goal
use Rattle.unit.proofs.moves_too_far.Goals.{After-in_box}

boxed : (c : After-in_box) → c.in_box.result ≡ in_box c.args.f c.args.l
boxed c = let e : reread c.args.l ≡ c.args.l = search rules in c.in_box.ensures ∙ ap (in_box c.args.f) e

pub dot-requires : goal.dot-requires
dot-requires c = box_moderate (wheelbase_nominal c.requires) (sym (boxed c.before) ∙ c.if-not-in_box.false)

pub returns-then-not-in_box : goal.returns-then-not-in_box
returns-then-not-in_box c = rw (c.if-not-in_box.true) (sym (outside_far c.args.f c.args.l c.requires (sym (boxed c.before) ∙ c.if-not-in_box.true)))

pub returns-else-not-in_box : goal.returns-else-not-in_box
unfolding too_far
returns-else-not-in_box c =
    let n : reread c.dot.result ≡ norm_sq c.args.f = search rules in
    ap₂ lt_z (held (wheelbase_sized c.requires ∷ᵇ none) (var 0 ⊗ var 0) tt) n
