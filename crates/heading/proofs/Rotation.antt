-- The turn by a half-angle tangent is an exact turn, so it keeps a heading's length; and nothing in it overflows.
use mathlib.Core.List.{List, [], ◌∷◌}
use lib.Dec.{lit≤}
use lib.IntN.{ℤ, pos, nat_abs, ◌*ℤ◌}
use lib.Signed.{◌≤ℤ◌}
use native.Mathlib.Omega.{arith}
use Rattle.exact.specs.Size.{Within}
use Rattle.exact.proofs.Polynomial.{◌⊕◌, ◌⊗◌, neg, lit, var}
use Rattle.exact.proofs.Order.{pos-≤, ≤-pos}
use Rattle.exact.proofs.Certificate.{◌⊞◌, ◌⊠◌, ◌·◌, num, sq, hyp, le}
use Rattle.exact.proofs.Sizes.{within}
use Rattle.exact.proofs.Machine.{Bounded, none, ◌∷ᵇ◌}
use Rattle.plane.specs.declared.Vec2.{Vec2}
use Rattle.plane.specs.Length.{heading_length, Near, Nominal}
use Rattle.plane.specs.Drawn.{Turned, Kept}
use Rattle.plane.proofs.Lengths.{coordinates}
use Rattle.plane.proofs.Keeping.{rule}
use Rattle.heading.specs.Turn.{rotated, rotation_scale, turned_by, Tangent}
use Rattle.heading.proofs.Angle.{rotation_exact}

pub scale_positive : (p q : ℤ) → pos 1 ≤ℤ q → pos 1 ≤ℤ rotation_scale p q
scale_positive p q h =
    let u = hyp {ρ = p ∷ q ∷ []} (lit 1) (var 1) h in
    le {ρ = p ∷ q ∷ []} (lit 1) (var 1 ⊗ var 1 ⊕ var 0 ⊗ var 0) (u ⊠ u ⊞ 2 · u ⊞ sq (var 0)) tt

pub heading_nominal : Nominal heading_length
heading_nominal = record { least = pos-≤ (lit≤ tt); most = pos-≤ (lit≤ tt) }

pub tangent_turned : (g : Vec2) (p q : ℤ) → Tangent g p q → Turned (rotated g p q) (rotation_scale p q) g heading_length
tangent_turned g p q t =
    record { divisor = record { positive = scale_positive p q t.least }; nominal = heading_nominal; near = t.heading; exact = rotation_exact g p q }

pub turned_kept : (g : Vec2) (p q : ℤ) → Tangent g p q → Kept (rotated g p q) (turned_by g p q) heading_length
turned_kept g p q t = rule (rotated g p q) (rotation_scale p q) g heading_length (tangent_turned g p q t)

-- a heading's coordinates are no larger than N
pub heading_within : (g : Vec2) → Near g heading_length (pos 2 *ℤ heading_length) → Within 1000000 g.x × Within 1000000 g.y
heading_within g n =
    let c = coordinates g.x g.y heading_length (pos-≤ (lit≤ tt)) n.high in
    (within c.0 c.1, within c.2 c.3)

tangent_within : (p q : ℤ) → (pos 2 *ℤ pos (nat_abs p)) ≤ℤ q → q ≤ℤ pos 2000000 → Within 1000000 p
tangent_within p q h k =
    let ρ : List ℤ = pos (nat_abs p) ∷ q ∷ [] in
    let twice : (pos 2 *ℤ pos (nat_abs p)) ≤ℤ pos 2000000 = le {ρ = ρ} (lit 2 ⊗ var 0) (lit 2000000) (hyp (lit 2 ⊗ var 0) (var 1) h ⊞ hyp (var 1) (lit 2000000) k) tt in
    record { size = omega (arith, ≤-pos twice) }

pub tangent_bounds : (g : Vec2) (p q : ℤ) → Tangent g p q → Bounded (1000000 ∷ 1000000 ∷ 1000000 ∷ 2000000 ∷ []) (g.x ∷ g.y ∷ p ∷ q ∷ [])
tangent_bounds g p q t =
    let h = heading_within g t.heading in
    h.0 ∷ᵇ h.1 ∷ᵇ tangent_within p q t.half t.most
    ∷ᵇ within (le {ρ = q ∷ []} (neg (lit 2000000)) (var 0) (hyp (lit 1) (var 0) t.least ⊞ num 2000001) tt) t.most ∷ᵇ none
