-- `unit::mirror::mirrored_vector` meets its contract: by the sizes of d and f nothing overflows.
use mathlib.Core.Path.{◌≡◌, sym, ◌∙◌, ap, ap₂, subst}
use mathlib.Core.List.{List, [], ◌∷◌}
use borrow.Author.Rules.{rules}
use lib.Dec.{lit≤}
use lib.IntN.{ℤ, pos, ◌-ℤ◌, ◌*ℤ◌}
use Rattle.exact.specs.Size.{Within}
use Rattle.exact.specs.Nearest.{Divisor}
use Rattle.exact.proofs.Polynomial.{Expr, var, lit, ◌⊕◌, ◌⊗◌, ◌⊜◌, ring, ring1}
use Rattle.exact.proofs.Sizes.{within_more}
use Rattle.exact.proofs.Machine.{Bounded, none, ◌∷ᵇ◌, reread, computed, fits, held, held_within}
use Rattle.plane.specs.declared.Vec2.{Vec2}
use Rattle.plane.specs.Vector.{dot, norm_sq, nearest_v}
use Rattle.unit.specs.Turn.{mirror_line, Mirrorable}
use Rattle.unit.specs.Products.{short_most, ShortVector, Dotted, Imaged}
use Rattle.unit.proofs.ProductLaws.{dot_most, dot_within, kept, kept_within}
use Rattle.unit.proofs.mirror.mirrored_vector.Goals as goal

abbrev MX : Expr
MX = var 0 ⊕ var 0 ⊕ var 2

abbrev MY : Expr
MY = var 1 ⊕ var 1 ⊕ var 3

abbrev ALONG : Expr
ALONG = var 0 ⊕ var 0

-- m, and what its dot products ask
module _ {d f : Vec2} (p : Mirrorable d f) where
  abbrev ρ : List ℤ
  ρ = d.x ∷ d.y ∷ f.x ∷ f.y ∷ []

  abbrev m : Vec2
  m = mirror_line d f

  abbrev line : Vec2
  line = record { x = reread (computed MX ρ); y = reread (computed MY ρ) }

  S : Bounded (200000 ∷ 200000 ∷ 200000 ∷ 200000 ∷ []) ρ
  S = p.vector.x ∷ᵇ p.vector.y ∷ᵇ p.move.x ∷ᵇ p.move.y ∷ᵇ none

  exact_mx : reread (computed MX ρ) ≡ m.x
  exact_mx = held S MX tt ∙ ring ρ MX (var 0 ⊗ lit 2 ⊕ var 2) tt

  exact_my : reread (computed MY ρ) ≡ m.y
  exact_my = held S MY tt ∙ ring ρ MY (var 1 ⊗ lit 2 ⊕ var 3) tt

  exact_line : line ≡ m
  exact_line = λ i. record { x = exact_mx i; y = exact_my i }

  line_short : ShortVector line
  line_short = record { x = held_within S MX tt tt; y = held_within S MY tt tt }

  unit_short : ShortVector d
  unit_short = record { x = within_more (lit≤ tt) p.vector.x; y = within_more (lit≤ tt) p.vector.y }

  line_unit : Dotted line d
  line_unit = record { first = line_short; second = unit_short }

  line_line : Dotted line line
  line_line = record { first = line_short; second = line_short }

  -- 2(m·d), of n = m·d
  module _ {n : ℤ} (e : n ≡ dot line d) where
    A : Bounded (dot_most ∷ []) (n ∷ [])
    A = subst (Within dot_most) (sym e) (dot_within line_unit) ∷ᵇ none

    exact_along : reread (computed ALONG (n ∷ [])) ≡ pos 2 *ℤ dot m d
    exact_along = held A ALONG tt ∙ ring1 n (λ z. z ⊕ z ⊜ lit 2 ⊗ z) tt ∙ ap (λ z. pos 2 *ℤ z) (e ∙ ap (λ v. dot v d) exact_line)

  -- n = |m|²
  module _ {n : ℤ} (e : n ≡ dot line line) where
    M : Within dot_most n
    M = subst (Within dot_most) (sym e) (dot_within line_line)

    exact_mm : reread n ≡ norm_sq m
    exact_mm = kept tt M ∙ e ∙ ap (λ v. norm_sq v) exact_line

  -- what a coordinate of the image asks
  asked : {a b x y : ℤ} → a ≡ dot line d → b ≡ dot line line → Within short_most x → Within short_most y
      → Imaged (reread x) (reread (computed ALONG (a ∷ []))) (reread y) (reread b)
  asked ea eb wx wy =
      record {
        first = record { first = kept_within tt wx; second = held_within (A ea) ALONG tt tt };
        second = record { first = kept_within tt wy; second = within_more (lit≤ tt) (kept_within tt (M eb)) };
      }

pub overflow_add-along : goal.overflow_add-along
overflow_add-along c = fits (A c.requires c.dot-md.ensures) ALONG tt

pub dot-md-requires : goal.dot-md-requires
dot-md-requires c = line_unit c.requires

pub dot-mm-requires : goal.dot-mm-requires
dot-mm-requires c = line_line c.requires

pub image_coordinate-requires : goal.image_coordinate-requires
image_coordinate-requires c = let p = c.requires in asked p c.dot-md.ensures c.dot-mm.ensures (line_short p).x (unit_short p).x

pub image_coordinate-requires-2 : goal.image_coordinate-requires-2
image_coordinate-requires-2 c = let p = c.requires in asked p c.dot-md.ensures c.dot-mm.ensures (line_short p).y (unit_short p).y

pub nearest_vector-requires : goal.nearest_vector-requires
nearest_vector-requires c = let p = c.requires in subst Divisor (sym (exact_mm p c.dot-mm.ensures)) (record { positive = p.line })

pub returns : goal.returns
returns c =
    let p = c.requires in
    let along = exact_along p c.dot-md.ensures in
    let mm = exact_mm p c.dot-mm.ensures in
    let mx = kept tt (line_short p).x ∙ exact_mx p in
    let my = kept tt (line_short p).y ∙ exact_my p in
    let dx = kept tt p.vector.x in
    let dy = kept tt p.vector.y in
    let rx : reread c.image_coordinate.result ≡ c.image_coordinate.result = search rules in
    let ry : reread c.image_coordinate-2.result ≡ c.image_coordinate-2.result = search rules in
    let wx = rx ∙ c.image_coordinate.ensures ∙ (λ i. mx i *ℤ along i -ℤ dx i *ℤ mm i) in
    let wy = ry ∙ c.image_coordinate-2.ensures ∙ (λ i. my i *ℤ along i -ℤ dy i *ℤ mm i) in
    c.nearest_vector.ensures ∙ ap₂ nearest_v (λ i. record { x = wx i; y = wy i }) mm
