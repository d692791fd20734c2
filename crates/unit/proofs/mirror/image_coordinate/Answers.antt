-- `unit::mirror::image_coordinate` meets its contract: two long products and their difference are held.
use mathlib.Core.Path.{◌∙◌, ap₂}
use mathlib.Core.List.{[], ◌∷◌}
use Prim.Native.Nat.{◌*◌}
use lib.IntN.{◌-ℤ◌}
use Rattle.exact.proofs.Polynomial.{var, ◌⊖◌}
use Rattle.exact.proofs.Machine.{Bounded, none, ◌∷ᵇ◌, fits, held}
use Rattle.unit.specs.Products.{short_most, long_most}
use Rattle.unit.proofs.ProductLaws.{times_exact, times_within}
use Rattle.unit.proofs.mirror.image_coordinate.Goals as goal
use Rattle.unit.proofs.mirror.image_coordinate.Goals.{After-long_times-2}

S : (c : After-long_times-2) → Bounded (short_most * long_most ∷ short_most * long_most ∷ []) (c.long_times.result ∷ c.long_times-2.result ∷ [])
S c =
    let p = c.requires in
    times_within p.first.first p.first.second tt tt tt c.long_times.ensures ∷ᵇ times_within p.second.first p.second.second tt tt tt c.long_times-2.ensures ∷ᵇ none

pub overflow_sub-result : goal.overflow_sub-result
overflow_sub-result c = fits (S c) (var 0 ⊖ var 1) tt

pub returns : goal.returns
returns c =
    let p = c.requires in
    let first = times_exact p.first.first p.first.second tt tt tt c.long_times.ensures in
    let second = times_exact p.second.first p.second.second tt tt tt c.long_times-2.ensures in
    held (S c) (var 0 ⊖ var 1) tt ∙ ap₂ ◌-ℤ◌ first second
