-- `reaches::far::far_off` meets its contract: by the sizes nothing overflows.
use mathlib.Core.Path.{◌≡◌, ◌∙◌}
use mathlib.Core.Bool.{Bool, not, ◌||◌}
use borrow.Author.Rules.{rules}
use lib.IntN.{ℤ}
use lib.Signed.{le_z}
use Rattle.exact.proofs.Polynomial.{lit, var, ◌⊖◌, ◌⊗◌}
use Rattle.exact.proofs.Machine.{none, ◌∷ᵇ◌, reread, fits, held}
use Rattle.reaches.specs.Far.{far_off}
use Rattle.reaches.proofs.far.far_off.Goals as goal

pub overflow_sub-result : goal.overflow_sub-result
overflow_sub-result c = fits (c.requires.near ∷ᵇ none) (lit 0 ⊖ var 0 ⊗ lit 1000000) tt

pub returns : goal.returns
unfolding far_off
returns c =
    let test : ℤ → ℤ → ℤ → Bool = λ x y z. le_z x y || not (le_z z y) in
    let kept : reread c.ahead_of-ahead.result ≡ c.ahead_of-ahead.result = search rules in
    let x = held (c.requires.near ∷ᵇ none) (var 0 ⊗ lit 1000000) tt in
    let y = kept ∙ c.ahead_of-ahead.ensures in
    let z = held (c.requires.near ∷ᵇ none) (lit 0 ⊖ var 0 ⊗ lit 1000000) tt in
    λ i. test (x i) (y i) (z i)
