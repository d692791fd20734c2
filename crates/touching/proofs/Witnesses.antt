-- Each requirement of this crate can be met, at the ends of its ranges too; and touches of each kind, computed.
use mathlib.Core.Path.{◌≡◌, refl}
use mathlib.Core.Bool.{Bool, true, false}
use lib.Dec.{lit≤}
use lib.IntN.{ℤ, pos, negsuc}
use Rattle.plane.specs.declared.Vec2.{Vec2}
use Rattle.touching.specs.Touch.{ranges_meet, overlap, touches, OnMap, Touchable, Sighted}

abbrev vec : ℤ → ℤ → Vec2
vec a b = record { x = a; y = b }

abbrev far : Vec2
far = vec (pos 160000000) (negsuc 159999999)

on_map_met : OnMap far
on_map_met = record { x = record { size = lit≤ tt }; y = record { size = lit≤ tt } }

touchable_met : Touchable far far far far
touchable_met = record { first_from = on_map_met; first_to = on_map_met; second_from = on_map_met; second_to = on_map_met }

sighted_met : Sighted (vec (pos 320000000) (negsuc 319999999)) far far far far
sighted_met = record { direction = record { x = record { size = lit≤ tt }; y = record { size = lit≤ tt } }; segments = touchable_met }

-- from (0, 0) to (4, 2), against a segment or a point
abbrev row : ℤ → ℤ → ℤ → ℤ → Bool
row cx cy dx dy = touches (vec (pos 0) (pos 0)) (vec (pos 4) (pos 2)) (vec cx cy) (vec dx dy)

record Rows : Type 0 where
  crossed : row (pos 1) (pos 2) (pos 3) (pos 0) ≡ true
  ended_on : row (pos 2) (pos 1) (pos 2) (pos 5) ≡ true
  short_of : row (pos 2) (pos 2) (pos 2) (pos 5) ≡ false
  end_to_end : row (pos 4) (pos 2) (pos 9) (pos 9) ≡ true
  overlaid : row (pos 8) (pos 4) (pos 2) (pos 1) ≡ true
  in_line_apart : row (pos 6) (pos 3) (pos 8) (pos 4) ≡ false
  in_line_end_to_end : row (negsuc 1) (negsuc 0) (pos 0) (pos 0) ≡ true
  beside : row (pos 0) (pos 1) (pos 4) (pos 3) ≡ false
  point_on : row (pos 2) (pos 1) (pos 2) (pos 1) ≡ true
  point_beside : row (pos 2) (pos 2) (pos 2) (pos 2) ≡ false
  point_beyond : row (pos 6) (pos 3) (pos 6) (pos 3) ≡ false
  two_points : touches far far (vec (pos 0) (pos 0)) (vec (pos 0) (pos 0)) ≡ false
  one_point : touches far far far far ≡ true

rows : Rows
unfolding ranges_meet overlap touches
rows =
    record {
      crossed = refl;
      ended_on = refl;
      short_of = refl;
      end_to_end = refl;
      overlaid = refl;
      in_line_apart = refl;
      in_line_end_to_end = refl;
      beside = refl;
      point_on = refl;
      point_beside = refl;
      point_beyond = refl;
      two_points = refl;
      one_point = refl;
    }
