-- The turn of a unit: the mirror image is as long as the unit, so it is an exact turn, and what is drawn keeps length, line and side.
use mathlib.Core.List.{List, [], ◌∷◌}
use lib.IntN.{ℤ, pos, ◌*ℤ◌}
use lib.Signed.{◌≤ℤ◌, ◌<ℤ◌}
use Rattle.exact.proofs.Polynomial.{◌⊕◌, ◌⊖◌, ◌⊗◌, lit, var}
use Rattle.exact.proofs.Certificate.{◌⊞◌, ◌⊠◌, ◌·◌, num, sq, hyp, le}
use Rattle.plane.specs.declared.Vec2.{Vec2}
use Rattle.plane.specs.Vector.{dot, norm_sq, right_normal}
use Rattle.plane.specs.Length.{Near, Nominal}
use Rattle.plane.specs.Settle.{Settleable}
use Rattle.plane.specs.Drawn.{Turned, Drawable, Kept}
use Rattle.plane.proofs.Keeping as Keeping
use Rattle.unit.specs.Turn.{mirror_line, image, mirrored, turned_by, Wheelbase, Turnable, TurnRule}
use Rattle.unit.proofs.MirrorImage.{image_length}

-- |m|² = 2|d + f|² + 2|d|² − |f|² is at least 1
pub line_positive : (d f : Vec2) (l : ℤ) → Turnable d f l → pos 1 ≤ℤ norm_sq (mirror_line d f)
line_positive d f l t =
    let ρ : List ℤ = d.x ∷ d.y ∷ f.x ∷ f.y ∷ l ∷ [] in
    let X = var 0 in
    let Y = var 1 in
    let F = var 2 in
    let G = var 3 in
    let L = var 4 in
    let u = hyp {ρ = ρ} (lit 5000) L t.wheelbase.least in
    let long = hyp {ρ = ρ} (L ⊗ L ⊖ lit 2 ⊗ L) (X ⊗ X ⊕ Y ⊗ Y) t.near.low in
    let short = hyp {ρ = ρ} (F ⊗ F ⊕ G ⊗ G) (L ⊗ L) t.move in
    let mx = X ⊗ lit 2 ⊕ F in
    let my = Y ⊗ lit 2 ⊕ G in
    le {ρ = ρ} (lit 1) (mx ⊗ mx ⊕ my ⊗ my)
    (2 · (sq (X ⊕ F) ⊞ sq (Y ⊕ G)) ⊞ 2 · long ⊞ short ⊞ u ⊠ u ⊞ 9996 · u ⊞ num 24979999) tt

pub wheelbase_nominal : {l : ℤ} → Wheelbase l → Nominal l
wheelbase_nominal {l} w = record { least = w.least; most = le {ρ = l ∷ []} (var 0) (lit 1000000) (hyp (var 0) (lit 200000) w.most ⊞ num 800000) tt }

module _ (d f : Vec2) (l : ℤ) (t : Turnable d f l) where
  abbrev m : Vec2
  m = mirror_line d f

  -- an exact turn, so it can be drawn
  pub turnable_turned : Turned (image m d) (norm_sq m) d l
  turnable_turned =
      record { divisor = record { positive = line_positive d f l t }; nominal = wheelbase_nominal t.wheelbase; near = t.near; exact = image_length m d }

  turnable_drawable : Drawable (image m d) (norm_sq m) l
  turnable_drawable = Keeping.turned_drawable (image m d) (norm_sq m) d l turnable_turned

  -- the image, rounded, is near enough to its length to be settled to it
  pub mirrored_settleable : Settleable (mirrored d f) l
  mirrored_settleable = turnable_drawable.rounded

  turned_kept : Kept (image m d) (turned_by d f l) l
  unfolding turned_by
  turned_kept = Keeping.rule (image m d) (norm_sq m) d l turnable_turned

  -- a turned unit can turn again
  pub turned_near : Near (turned_by d f l) l (pos 2 *ℤ l)
  turned_near = turned_kept.length

  abbrev w : Vec2
  w = image (mirror_line d f) d

  turned_line : (dot (turned_by d f l) (right_normal w) *ℤ dot (turned_by d f l) (right_normal w)) ≤ℤ (pos 4 *ℤ norm_sq w)
  turned_line = turned_kept.line

  turned_side : pos 0 <ℤ dot (turned_by d f l) w
  turned_side = turned_kept.side

pub rule : TurnRule
rule d f l t = record { length = turned_near d f l t; line = turned_line d f l t; side = turned_side d f l t }
