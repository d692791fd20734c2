-- The cases of document 01 ("Rigs to try", marked P) that speak of one unit or one hitch, by computation.
use mathlib.Core.Path.{◌≡◌, refl}
use mathlib.Core.Bool.{true, false}
use lib.IntN.{ℤ, pos, negsuc}
use Rattle.exact.specs.Nearest.{half_to, nearest_size, nearest_z}
use Rattle.plane.specs.declared.Vec2.{Vec2}
use Rattle.plane.specs.Length.{has_length}
use Rattle.refusal.specs.Numbers.{answered}
use Rattle.unit.specs.Turn.{turned_by, too_far, unit_turn}
use Rattle.unit.specs.Coupling.{fold_allowed}

abbrev vec : ℤ → ℤ → Vec2
vec a b = record { x = a; y = b }

pub record Rows : Type 0 where
  pub turned : unit_turn (vec (pos 0) (pos 50000)) (vec (pos 30000) (negsuc 9999)) 50000 ≡ answered (vec (pos 30000) (pos 40000))
  pub straight : unit_turn (vec (pos 0) (pos 50000)) (vec (pos 0) (pos 5000)) 50000 ≡ answered (vec (pos 0) (pos 50000))
  pub square : fold_allowed (vec (pos 0) (pos 50000)) (vec (pos 50000) (pos 0)) (pos 0) (pos 50000) (pos 50000) ≡ true
  pub folded : fold_allowed (vec (pos 0) (pos 50000)) (vec (pos 50000) (negsuc 0)) (pos 0) (pos 50000) (pos 50000) ≡ false

pub rows : Rows
unfolding half_to nearest_size nearest_z has_length turned_by too_far unit_turn fold_allowed
rows = record { turned = refl; straight = refl; square = refl; folded = refl }
