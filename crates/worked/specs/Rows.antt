-- Lists of rows, each a question with its answer, and the numbers they are written with.
use Rattle.std.specs.Prelude.{ℕ, List, [], ◌∷◌, ℤ, pos, neg_ℤ}
use Rattle.plane.specs.declared.Vec2.{Vec2}

-- what every row says
abbrev pub AllHold : {R : Type 0} → (R → Type 0) → List R → Type 0
AllHold holds [] = Unit {0}
AllHold holds (r ∷ rs) = holds r × AllHold holds rs

abbrev pub neg : ℕ → ℤ
neg n = neg_ℤ (pos n)

abbrev pub vec : ℤ → ℤ → Vec2
vec a b = record { x = a; y = b }
