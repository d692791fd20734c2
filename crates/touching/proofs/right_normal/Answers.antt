-- `touching::right_normal` meets its contract.
use mathlib.Core.Path.{◌≡◌, ◌∙◌}
use mathlib.Core.List.{[], ◌∷◌}
use borrow.Author.Rules.{rules}
use Rattle.exact.proofs.Polynomial.{lit, var, neg, ◌⊖◌, ring}
use Rattle.exact.proofs.Machine.{reread, Bounded, none, ◌∷ᵇ◌, fits, held}
use Rattle.touching.proofs.right_normal.Goals as goal
use Rattle.touching.proofs.right_normal.Goals.{Start}

abbrev bounds : (c : Start) → Bounded (2000000000 ∷ []) (c.args.v.x ∷ [])
bounds c = c.requires.x ∷ᵇ none

pub overflow_sub-result : goal.overflow_sub-result
overflow_sub-result c = fits (bounds (goal.at.overflow_sub-result c).Start) (lit 0 ⊖ var 0) tt

pub returns : goal.returns
returns c =
    let s = (goal.at.returns c).Start in
    let v = s.args.v in
    let ex : reread v.y ≡ v.y = search rules in
    let ey = held (bounds s) (lit 0 ⊖ var 0) tt ∙ ring (v.x ∷ []) (lit 0 ⊖ var 0) (neg (var 0)) tt in
    λ i. record { x = ex i; y = ey i }
