-- The turn of a heading (01, "Laying the path").
use Rattle.std.specs.Prelude.{◌≡◌, zero, suc, ℤ, pos, negsuc, neg_ℤ, nat_abs, ◌+ℤ◌, ◌-ℤ◌, ◌*ℤ◌, ◌≤ℤ◌, ◌<ℤ◌}
use Rattle.plane.specs.declared.Vec2.{Vec2}
use Rattle.plane.specs.Vector.{dot, norm_sq, plus, times, right_normal, nearest_v}
use Rattle.plane.specs.Length.{heading_length, Near}
use Rattle.plane.specs.Drawn.{drawn}

-- the turn to the right by the half-angle tangent p / q: ((q² − p²)g + 2pq·n) / (q² + p²) with n the right-hand normal of g
abbrev pub rotated : Vec2 → ℤ → ℤ → Vec2
rotated g p q = plus (times g (q *ℤ q -ℤ p *ℤ p)) (times (right_normal g) (pos 2 *ℤ p *ℤ q))

abbrev pub rotation_scale : ℤ → ℤ → ℤ
rotation_scale p q = q *ℤ q +ℤ p *ℤ p

-- a heading is drawn as every turn is: nearest by coordinate, then settled to N
abbrev pub drawn_heading : Vec2 → ℤ → Vec2
drawn_heading w q = drawn w q heading_length

abbrev pub turned_by : Vec2 → ℤ → ℤ → Vec2
turned_by g p q = drawn_heading (rotated g p q) (rotation_scale p q)

-- what it asks: a heading, and a tangent of at most one half to either side
pub record Tangent (g : Vec2) (p q : ℤ) : Type 0 where
  pub heading : Near g heading_length (pos 2 *ℤ heading_length)
  pub least : pos 1 ≤ℤ q
  pub most : q ≤ℤ pos 2000000
  pub half : (pos 2 *ℤ pos (nat_abs p)) ≤ℤ q

-- g' = ((4r² − s²)g + 4·|r|·s·n) / (4r² + s²) for a step of length s on an arc of radius r, nearest by coordinate, then settled to N
abbrev pub arc_turn : Vec2 → ℤ → ℤ → Vec2 → Vec2
arc_turn g s r n =
    drawn_heading (plus (times g (pos 4 *ℤ (r *ℤ r) -ℤ s *ℤ s)) (times n (pos 4 *ℤ pos (nat_abs r) *ℤ s))) (pos 4 *ℤ (r *ℤ r) +ℤ s *ℤ s)

-- n is the right-hand normal of g for r > 0 and its opposite for r < 0; on a straight g' = g
abbrev pub heading_after : Vec2 → ℤ → ℤ → Vec2
heading_after g s (pos zero) = g
heading_after g s (pos (suc r)) = arc_turn g s (pos (suc r)) (right_normal g)
heading_after g s (negsuc r) = arc_turn g s (negsuc r) (times (right_normal g) (negsuc 0))

-- the half-angle tangent of a step on an arc is s / (2|r|), to the side of r
abbrev pub tangent_of : ℤ → ℤ → ℤ
tangent_of s (pos r) = s
tangent_of s (negsuc r) = neg_ℤ s

-- the move along the path: nearest s × (g + g') / (2N)
abbrev pub move_of : Vec2 → Vec2 → ℤ → Vec2
move_of g g' s = nearest_v (times (plus g g') s) (pos 2 *ℤ heading_length)

-- the claim: an arc turns by the tangent s / (2|r|)
abbrev pub ArcRule : Type 0
ArcRule = (g : Vec2) (s : ℤ) (r : ℤ) → (r ≡ pos 0 → ⊥) → heading_after g s r ≡ turned_by g (tangent_of s r) (pos 2 *ℤ pos (nat_abs r))

-- what a half-angle tangent is, apart from the formula: w / S is g turned to the right by twice the angle with tangent p / q.
-- With n the right-hand normal of g, w · n / (S|g|²) is the turn's sine and w · g / (S|g|²) its cosine; tan (half the angle) is sin / (1 + cos),
-- so q sin = p (1 + cos). A half turn would meet that too, but its cosine is −1.
pub record HalfAngle (g : Vec2) (p q : ℤ) (w : Vec2) (S : ℤ) : Type 0 where
  pub length : norm_sq w ≡ S *ℤ S *ℤ norm_sq g
  pub tangent : q *ℤ dot w (right_normal g) ≡ p *ℤ (dot w g +ℤ S *ℤ norm_sq g)
  pub short : pos 1 ≤ℤ q → pos 1 ≤ℤ norm_sq g → pos 0 <ℤ (dot w g +ℤ S *ℤ norm_sq g)

-- the claim: the exact turn by p / q has that half-angle tangent
abbrev pub TangentRule : Type 0
TangentRule = (g : Vec2) (p q : ℤ) → HalfAngle g p q (rotated g p q) (rotation_scale p q)
