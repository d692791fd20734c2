-- The exact turn by p / q keeps the length, and p / q is the tangent of half its angle.
use mathlib.Core.Path.{◌≡◌}
use mathlib.Core.List.{List, [], ◌∷◌}
use lib.IntN.{ℤ, pos, ◌+ℤ◌, ◌*ℤ◌}
use lib.Signed.{◌≤ℤ◌, ◌<ℤ◌, lt_z_yes, <ℤ-≤ℤ_trans}
use Rattle.exact.proofs.Polynomial.{◌⊕◌, ◌⊖◌, ◌⊗◌, ◌⊜◌, neg, lit, var, ring4}
use Rattle.exact.proofs.Certificate.{◌⊞◌, ◌⊠◌, ◌·◌, num, hyp, le}
use Rattle.plane.specs.declared.Vec2.{Vec2}
use Rattle.plane.specs.Vector.{dot, norm_sq, right_normal}
use Rattle.heading.specs.Turn.{rotated, rotation_scale, TangentRule}

-- q (w · n) = p (w · g + (q² + p²)|g|²)
rotation_tangent : (g : Vec2) (p q : ℤ) → let w = rotated g p q in q *ℤ dot w (right_normal g) ≡ p *ℤ (dot w g +ℤ rotation_scale p q *ℤ norm_sq g)
rotation_tangent g p q = ring4 g.x g.y p q (λ x y p q.
    let a = q ⊗ q ⊖ p ⊗ p in
    let b = lit 2 ⊗ p ⊗ q in
    let u = x ⊗ a ⊕ y ⊗ b in
    let v = y ⊗ a ⊕ neg x ⊗ b in
    q ⊗ (u ⊗ y ⊕ v ⊗ neg x) ⊜ p ⊗ (u ⊗ x ⊕ v ⊗ y ⊕ (q ⊗ q ⊕ p ⊗ p) ⊗ (x ⊗ x ⊕ y ⊗ y))) tt

-- |(q² − p²)g + 2pq·n|² = (q² + p²)²|g|²
pub rotation_exact : (g : Vec2) (p q : ℤ) → norm_sq (rotated g p q) ≡ rotation_scale p q *ℤ rotation_scale p q *ℤ norm_sq g
rotation_exact g p q = ring4 g.x g.y p q (λ x y p q.
    let a = q ⊗ q ⊖ p ⊗ p in
    let b = lit 2 ⊗ p ⊗ q in
    let n = q ⊗ q ⊕ p ⊗ p in
    let u = x ⊗ a ⊕ y ⊗ b in
    let v = y ⊗ a ⊕ neg x ⊗ b in
    u ⊗ u ⊕ v ⊗ v ⊜ n ⊗ n ⊗ (x ⊗ x ⊕ y ⊗ y)) tt

-- w · g + (q² + p²)|g|² = 2q²|g|²
rotation_short : (g : Vec2) (p q : ℤ) → pos 1 ≤ℤ q → pos 1 ≤ℤ norm_sq g → pos 0 <ℤ (dot (rotated g p q) g +ℤ rotation_scale p q *ℤ norm_sq g)
rotation_short g p q h k =
    let ρ : List ℤ = g.x ∷ g.y ∷ p ∷ q ∷ [] in
    let a = var 3 ⊗ var 3 ⊖ var 2 ⊗ var 2 in
    let b = lit 2 ⊗ var 2 ⊗ var 3 in
    let u = var 0 ⊗ a ⊕ var 1 ⊗ b in
    let v = var 1 ⊗ a ⊕ neg (var 0) ⊗ b in
    let n = var 0 ⊗ var 0 ⊕ var 1 ⊗ var 1 in
    let Q = hyp {ρ = ρ} (lit 1) (var 3) h in
    let G = hyp {ρ = ρ} (lit 1) n k in
    let QQ = Q ⊠ Q ⊞ 2 · Q in
    <ℤ-≤ℤ_trans (lt_z_yes tt) (le (lit 1) (u ⊗ var 0 ⊕ v ⊗ var 1 ⊕ (var 3 ⊗ var 3 ⊕ var 2 ⊗ var 2) ⊗ n) (2 · (QQ ⊠ G ⊞ QQ ⊞ G) ⊞ num 1) tt)

pub half_angle : TangentRule
half_angle g p q = record { length = rotation_exact g p q; tangent = rotation_tangent g p q; short = rotation_short g p q }
