-- The sizes of what is measured at a station: the products fit 64 bits, a reach fits 32.
use mathlib.Core.Path.{◌≡◌}
use mathlib.Core.List.{List, [], ◌∷◌}
use Prim.Native.Nat.{ℕ}
use native.Mathlib.Omega.{arith}
use lib.Dec.{lit≤}
use lib.IntN.{ℤ}
use mir.Syntax.{w32}
use mir.Val.{SFits}
use Rattle.exact.specs.Size.{Within}
use Rattle.exact.specs.Nearest.{Divisor}
use Rattle.exact.proofs.Polynomial.{Expr, ◌⊕◌, ◌⊖◌, ◌⊗◌, ◌⊜◌, neg, var, eval, solve}
use Rattle.exact.proofs.Order.{pos-≤}
use Rattle.exact.proofs.Sizes.{within, within_more, ≤-size, ≥-size, mag-≤-abs}
use Rattle.exact.proofs.NearestLaws.{nearest_bounded}
use Rattle.exact.proofs.Machine.{Bounded, none, ◌∷ᵇ◌, within_size_of}
use Rattle.plane.specs.declared.Vec2.{Vec2}
use Rattle.plane.specs.Length.{heading_length}
use Rattle.plane.specs.Vector.{dot, minus, right_normal}
use Rattle.plane.proofs.Lengths.{coordinates}
use Rattle.path.specs.declared.Station.{Station}
use Rattle.reaches.specs.Crossing.{reach_of}
use Rattle.reaches.specs.Inner.{Measurable}

-- N is a divisor
pub length_divides : Divisor heading_length
length_divides = record { positive = pos-≤ (lit≤ tt) }

-- the point's x and y, the station's, and its heading's
abbrev pub sizes : List ℕ
sizes = 160000000 ∷ 160000000 ∷ 150000000 ∷ 150000000 ∷ 1000000 ∷ 1000000 ∷ []

abbrev pub values : Station → Vec2 → List ℤ
values s a = a.x ∷ a.y ∷ s.position.x ∷ s.position.y ∷ s.heading.x ∷ s.heading.y ∷ []

pub measured : {s : Station} {a : Vec2} → Measurable s a → Bounded sizes (values s a)
measured {s} {a} m =
    let g = coordinates s.heading.x s.heading.y heading_length (pos-≤ (lit≤ tt)) m.station.heading.high in
    m.point.x ∷ᵇ m.point.y ∷ᵇ m.station.x ∷ᵇ m.station.y ∷ᵇ within g.0 g.1 ∷ᵇ within g.2 g.3 ∷ᵇ none

-- (A − P) · g, and (A − P) · right normal of g, as the code has it and as it is defined
abbrev pub AHEAD : Expr
AHEAD = (var 0 ⊖ var 2) ⊗ var 4 ⊕ (var 1 ⊖ var 3) ⊗ var 5

abbrev pub ASIDE : Expr
ASIDE = (var 0 ⊖ var 2) ⊗ var 5 ⊖ (var 1 ⊖ var 3) ⊗ var 4

abbrev NORMAL : Expr
NORMAL = (var 0 ⊖ var 2) ⊗ var 5 ⊕ (var 1 ⊖ var 3) ⊗ neg (var 4)

pub aside : (s : Station) (a : Vec2) → eval ASIDE (values s a) ≡ dot (minus a s.position) (right_normal s.heading)
aside s a = solve (values s a) (ASIDE ⊜ NORMAL) tt

-- a reach is at most 620,000,000 in size: 310,000,000 from each coordinate
pub reach_within : {s : Station} {a : Vec2} → Measurable s a → Within 620000000 (reach_of s a)
unfolding reach_of
reach_within {s} {a} m =
    let w : Within 620000000000000 _ = within_size_of (measured m) NORMAL in
    nearest_bounded _ heading_length 620000000 length_divides.positive (≥-size w) (≤-size w)

-- inside the cleared values −2,000,000,000 and 2,000,000,000
pub reach_inside : {s : Station} {a : Vec2} → Measurable s a → Within 1999999999 (reach_of s a)
reach_inside m = within_more (lit≤ tt) (reach_within m)

-- so it fits
pub fits32 : {z : ℤ} → Within 1999999999 z → SFits w32 z
fits32 {z} w = record { sfits = omega (arith, mag-≤-abs z, w.size) }
