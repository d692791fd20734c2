-- The worked cases of 01, "Rigs to try", on the path's turn, by computation.
use mathlib.Core.Path.{◌≡◌, refl}
use lib.IntN.{ℤ, pos, negsuc}
use Rattle.exact.specs.Nearest.{half_to, nearest_size, nearest_z}
use Rattle.plane.specs.Length.{has_length}
use Rattle.plane.specs.declared.Vec2.{Vec2}
use Rattle.refusal.specs.Numbers.{answered}
use Rattle.heading.specs.PathTurn.{path_turn}

abbrev vec : ℤ → ℤ → Vec2
vec a b = record { x = a; y = b }

pub right_row : path_turn (vec (pos 0) (pos 1000000)) 20000 (pos 20000) ≡ answered (record { heading = vec (pos 800000) (pos 600000); shift = vec (pos 8000) (pos 16000) })
unfolding half_to nearest_size nearest_z has_length path_turn
right_row = refl

pub left_row : path_turn (vec (pos 0) (pos 1000000)) 20000 (negsuc 19999) ≡ answered (record { heading = vec (negsuc 799999) (pos 600000); shift = vec (negsuc 7999) (pos 16000) })
unfolding half_to nearest_size nearest_z has_length path_turn
left_row = refl
