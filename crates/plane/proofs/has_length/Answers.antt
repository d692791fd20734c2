-- `plane::has_length` meets its contract: inside the box nothing overflows, and outside it no vector has the length.
use mathlib.Core.Path.{◌≡◌, sym, ◌∙◌, ap, ap₂}
use borrow.Author.Rules.{rules}
use lib.IntN.{ℤ, nat_abs, ◌-ℤ◌}
use Rattle.exact.proofs.Polynomial.{Expr, var, ◌⊗◌}
use Rattle.exact.proofs.Machine.{none, ◌∷ᵇ◌, reread, fits, held}
use Rattle.plane.specs.Length.{in_box}
use Rattle.plane.specs.Vector.{dot}
use Rattle.plane.proofs.Lengths.{box_moderate, outside_box, nominal_within, length_by_difference}
use Rattle.plane.proofs.has_length.Goals as goal
use Rattle.plane.proofs.has_length.Goals.{After-in_box}

abbrev KK : Expr
KK = var 0 ⊗ var 0

boxed : (c : After-in_box) → c.in_box.result ≡ in_box c.args.v c.args.k
boxed c = let e : reread c.args.k ≡ c.args.k = search rules in c.in_box.ensures ∙ ap (in_box c.args.v) e

pub returns-then-not-in_box : goal.returns-then-not-in_box
returns-then-not-in_box c = sym (outside_box c.args.v c.args.k c.requires (sym (boxed c.before) ∙ c.if-not-in_box.true))

pub dot-requires : goal.dot-requires
dot-requires c = box_moderate c.requires (sym (boxed c.before) ∙ c.if-not-in_box.false)

pub overflow_mul-k : goal.overflow_mul-k
overflow_mul-k c = fits (nominal_within c.requires ∷ᵇ none) KK tt

pub returns : goal.returns
returns c =
    let k : reread c.args.k ≡ c.args.k = search rules in
    let d : reread c.dot.result ≡ dot c.args.v c.args.v = search rules in
    let e = c.abs_diff.ensures ∙ ap₂ (λ (n s : ℤ). nat_abs (n -ℤ s)) d (held (nominal_within c.requires ∷ᵇ none) KK tt) in
    let m = c.unsigned_abs.ensures.value ∙ ap nat_abs k in
    rw (e, m) (length_by_difference c.args.v c.args.k c.requires)
