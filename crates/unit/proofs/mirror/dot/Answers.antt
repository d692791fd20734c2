-- `unit::mirror::dot` meets its contract: two short products and their sum are held.
use mathlib.Core.Path.{◌∙◌, ap₂}
use mathlib.Core.List.{[], ◌∷◌}
use Prim.Native.Nat.{◌*◌}
use lib.Dec.{lit≤}
use lib.IntN.{◌+ℤ◌}
use Rattle.exact.proofs.Polynomial.{var, ◌⊕◌}
use Rattle.exact.proofs.Machine.{Bounded, none, ◌∷ᵇ◌, fits, held}
use Rattle.exact.proofs.Sizes.{within_more}
use Rattle.unit.specs.Products.{short_most}
use Rattle.unit.proofs.ProductLaws.{kept_within, times_exact, times_within}
use Rattle.unit.proofs.mirror.dot.Goals as goal
use Rattle.unit.proofs.mirror.dot.Goals.{After-long_times-2}

S : (c : After-long_times-2) → Bounded (short_most * short_most ∷ short_most * short_most ∷ []) (c.long_times.result ∷ c.long_times-2.result ∷ [])
S c =
    let p = c.requires in
    times_within p.first.x p.second.x tt tt tt c.long_times.ensures ∷ᵇ times_within p.first.y p.second.y tt tt tt c.long_times-2.ensures ∷ᵇ none

pub long_times-requires : goal.long_times-requires
long_times-requires c =
    let p = c.requires in
    record { first = kept_within tt p.first.x; second = within_more (lit≤ tt) (kept_within tt p.second.x) }

pub long_times-requires-2 : goal.long_times-requires-2
long_times-requires-2 c =
    let p = c.requires in
    record { first = kept_within tt p.first.y; second = within_more (lit≤ tt) (kept_within tt p.second.y) }

pub overflow_add-result : goal.overflow_add-result
overflow_add-result c = fits (S c) (var 0 ⊕ var 1) tt

pub returns : goal.returns
returns c =
    let p = c.requires in
    let x = times_exact p.first.x p.second.x tt tt tt c.long_times.ensures in
    let y = times_exact p.first.y p.second.y tt tt tt c.long_times-2.ensures in
    held (S c) (var 0 ⊕ var 1) tt ∙ ap₂ ◌+ℤ◌ x y
