-- What the inner functions require can be met. Assumes nothing.
use mathlib.Core.List.{[], ◌∷◌}
use native.Mathlib.Omega.{arith}
use Rattle.text.specs.Inner.{Room}

-- "-1" at the end of a run of four bytes
room : Room (45 ∷ 49 ∷ []) 2 4
room = record { ends = omega arith }
