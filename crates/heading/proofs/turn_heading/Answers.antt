-- `heading::turn_heading` meets its contract: by the sizes of the heading and the tangent nothing overflows.
use mathlib.Core.Path.{◌≡◌, sym, ◌∙◌, ap₂, subst₂}
use mathlib.Core.List.{List, [], ◌∷◌}
use lib.IntN.{ℤ}
use Rattle.exact.proofs.Polynomial.{Expr, var, lit, neg, ◌⊕◌, ◌⊖◌, ◌⊗◌, ring}
use Rattle.exact.proofs.Machine.{Bounded, reread, computed, fits, held}
use Rattle.plane.specs.declared.Vec2.{Vec2}
use Rattle.plane.specs.Drawn.{Drawable}
use Rattle.plane.proofs.Keeping.{turned_drawable}
use Rattle.plane.specs.Length.{heading_length}
use Rattle.heading.specs.Turn.{rotated, rotation_scale, drawn_heading, Tangent}
use Rattle.heading.proofs.Rotation.{tangent_bounds, tangent_turned}
use Rattle.heading.proofs.turn_heading.Goals as goal

abbrev X : Expr
X = var 0

abbrev Y : Expr
Y = var 1

abbrev P : Expr
P = var 2

abbrev Q : Expr
Q = var 3

abbrev A : Expr
A = Q ⊗ Q ⊖ P ⊗ P

abbrev B : Expr
B = lit 2 ⊗ P ⊗ Q

abbrev MX : Expr
MX = lit 0 ⊖ X

abbrev WX : Expr
WX = X ⊗ A ⊕ Y ⊗ B

abbrev WY : Expr
WY = Y ⊗ A ⊕ MX ⊗ B

abbrev N : Expr
N = Q ⊗ Q ⊕ P ⊗ P

-- what is handed to `draw` is the exact turn and its scale
module _ {g : Vec2} {p q : ℤ} (t : Tangent g p q) where
  abbrev ρ : List ℤ
  ρ = g.x ∷ g.y ∷ p ∷ q ∷ []

  S : Bounded (1000000 ∷ 1000000 ∷ 1000000 ∷ 2000000 ∷ []) ρ
  S = tangent_bounds g p q t

  turned : ◌≡◌ {A = Vec2} (record { x = reread (computed WX ρ); y = reread (computed WY ρ) }) (rotated g p q)
  turned =
      let ex = held S WX tt in
      let ey = held S WY tt ∙ ring ρ WY (Y ⊗ A ⊕ neg X ⊗ B) tt in
      λ i. record { x = ex i; y = ey i }

  scale : reread (computed N ρ) ≡ rotation_scale p q
  scale = held S N tt

pub overflow_mul-a : goal.overflow_mul-a
overflow_mul-a c = fits (S c.requires) (Q ⊗ Q) tt

pub overflow_mul-a-2 : goal.overflow_mul-a-2
overflow_mul-a-2 c = fits (S c.requires) (P ⊗ P) tt

pub overflow_sub-a : goal.overflow_sub-a
overflow_sub-a c = fits (S c.requires) A tt

pub overflow_mul-b-2 : goal.overflow_mul-b-2
overflow_mul-b-2 c = fits (S c.requires) B tt

pub overflow_mul-w : goal.overflow_mul-w
overflow_mul-w c = fits (S c.requires) (X ⊗ A) tt

pub overflow_mul-w-2 : goal.overflow_mul-w-2
overflow_mul-w-2 c = fits (S c.requires) (Y ⊗ B) tt

pub overflow_add-w : goal.overflow_add-w
overflow_add-w c = fits (S c.requires) WX tt

pub overflow_mul-w-3 : goal.overflow_mul-w-3
overflow_mul-w-3 c = fits (S c.requires) (Y ⊗ A) tt

pub overflow_mul-w-4 : goal.overflow_mul-w-4
overflow_mul-w-4 c = fits (S c.requires) (MX ⊗ B) tt

pub overflow_add-w-2 : goal.overflow_add-w-2
overflow_add-w-2 c = fits (S c.requires) WY tt

pub overflow_mul-q : goal.overflow_mul-q
overflow_mul-q c = fits (S c.requires) (Q ⊗ Q) tt

pub overflow_mul-p : goal.overflow_mul-p
overflow_mul-p c = fits (S c.requires) (P ⊗ P) tt

pub overflow_add-q : goal.overflow_add-q
overflow_add-q c = fits (S c.requires) N tt

pub draw-requires : goal.draw-requires
draw-requires c =
    let t = c.requires in
    subst₂ (λ (w : Vec2) (q : ℤ). Drawable w q heading_length) (sym (turned t)) (sym (scale t)) (turned_drawable _ _ _ heading_length (tangent_turned _ _ _ t))

pub returns : goal.returns
returns c = c.draw.ensures ∙ ap₂ drawn_heading (turned c.requires) (scale c.requires)
