-- The mirror image is as long as the unit.
use mathlib.Core.Path.{◌≡◌}
use lib.IntN.{◌*ℤ◌}
use Rattle.exact.proofs.Polynomial.{◌⊕◌, ◌⊖◌, ◌⊗◌, ◌⊜◌, lit, ring4}
use Rattle.plane.specs.declared.Vec2.{Vec2}
use Rattle.plane.specs.Vector.{norm_sq}
use Rattle.unit.specs.Turn.{image}

-- |w|² = |m|⁴|d|²
pub image_length : (m d : Vec2) → norm_sq (image m d) ≡ norm_sq m *ℤ norm_sq m *ℤ norm_sq d
image_length m d = ring4 m.x m.y d.x d.y (λ mx my dx dy.
    let along = lit 2 ⊗ (mx ⊗ dx ⊕ my ⊗ dy) in
    let mm = mx ⊗ mx ⊕ my ⊗ my in
    let wx = mx ⊗ along ⊖ dx ⊗ mm in
    let wy = my ⊗ along ⊖ dy ⊗ mm in
    wx ⊗ wx ⊕ wy ⊗ wy ⊜ mm ⊗ mm ⊗ (dx ⊗ dx ⊕ dy ⊗ dy)) tt
