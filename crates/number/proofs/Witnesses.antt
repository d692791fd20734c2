-- What the inner functions require can be met. Assumes nothing.
use mathlib.Core.List.{[], ◌∷◌}
use native.Mathlib.Omega.{arith}
use Rattle.number.specs.Inner.{GroupsLeft, Room}

groups_left : GroupsLeft 5
groups_left = record { most = omega arith }

room : Room (0x7F ∷ []) 3 4
room = record { ends = omega arith }
