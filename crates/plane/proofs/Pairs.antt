-- The coordinates of two moderate vectors are bounded: a's x and y, then b's.
use mathlib.Core.List.{[], ◌∷◌}
use Rattle.exact.proofs.Machine.{Bounded, none, ◌∷ᵇ◌}
use Rattle.plane.specs.declared.Vec2.{Vec2}
use Rattle.plane.specs.Vector.{BothModerate}

pub pair_bounds : {a b : Vec2} → BothModerate a b → Bounded (2000000000 ∷ 2000000000 ∷ 2000000000 ∷ 2000000000 ∷ []) (a.x ∷ a.y ∷ b.x ∷ b.y ∷ [])
pair_bounds m = m.first.x ∷ᵇ m.first.y ∷ᵇ m.second.x ∷ᵇ m.second.y ∷ᵇ none
