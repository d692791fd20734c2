-- The construction of 1988, by polynomial identities: from the two equations of the centre, that the mirror image is the unit turned about it.
use mathlib.Core.Path.{◌≡◌, sym, ◌∙◌, ap, ap₂}
use mathlib.Core.List.{List, [], ◌∷◌}
use Prim.Native.Nat.{zero, suc}
use native.Mathlib.Omega.{arith}
use lib.Dec.{lit≤}
use lib.IntN.{ℤ, pos, negsuc, ◌+ℤ◌, ◌*ℤ◌}
use lib.Signed.{◌≤ℤ◌}
use Rattle.exact.proofs.Polynomial.{Expr, ◌⊕◌, ◌⊖◌, ◌⊗◌, neg, lit, var, ring}
use Rattle.exact.proofs.Order.{≤ℤ-antisym, pos-≤}
use Rattle.exact.proofs.Certificate.{eqn, le_scaled, positive_mul}
use Rattle.plane.specs.declared.Vec2.{Vec2}
use Rattle.plane.specs.Vector.{dot, norm_sq, plus, times, right_normal}
use Rattle.unit.specs.Turn.{mirror_line, image}
use Rattle.unit.specs.Construction.{from_old_axle, from_new_front, Centre, TurnedAbout, InLine, Construction1988}
use Rattle.exact.proofs.Equations.{Zero, ◌⊹◌, multiple, equal}
use Rattle.unit.proofs.MirrorImage.{image_length}

module _ (d f p : Vec2) (z : ℤ) (c : Centre d f p z) where
  abbrev ρ : List ℤ
  ρ = d.x ∷ d.y ∷ f.x ∷ f.y ∷ p.x ∷ p.y ∷ z ∷ []

  abbrev DX : Expr
  DX = var 0

  abbrev DY : Expr
  DY = var 1

  abbrev FX : Expr
  FX = var 2

  abbrev FY : Expr
  FY = var 3

  abbrev PX : Expr
  PX = var 4

  abbrev PY : Expr
  PY = var 5

  abbrev Z : Expr
  Z = var 6

  abbrev MX : Expr
  MX = DX ⊗ lit 2 ⊕ FX

  abbrev MY : Expr
  MY = DY ⊗ lit 2 ⊕ FY

  abbrev MD : Expr
  MD = MX ⊗ DX ⊕ MY ⊗ DY

  abbrev MM : Expr
  MM = MX ⊗ MX ⊕ MY ⊗ MY

  abbrev WX : Expr
  WX = MX ⊗ (lit 2 ⊗ MD) ⊖ DX ⊗ MM

  abbrev WY : Expr
  WY = MY ⊗ (lit 2 ⊗ MD) ⊖ DY ⊗ MM

  abbrev UX : Expr
  UX = PX ⊖ FX ⊗ Z

  abbrev UY : Expr
  UY = PY ⊖ FY ⊗ Z

  abbrev PF : Expr
  PF = PX ⊗ FX ⊕ PY ⊗ FY

  abbrev FF : Expr
  FF = FX ⊗ FX ⊕ FY ⊗ FY

  -- the bisector's equation is linear in the centre: 2 p·f = z|f|²
  bisector_linear : pos 2 *ℤ dot p f ≡ z *ℤ norm_sq f
  bisector_linear =
      let e = PX ⊗ PX ⊕ PY ⊗ PY in
      let g = UX ⊗ UX ⊕ UY ⊗ UY in
      ≤ℤ-antisym
      (le_scaled {ρ = ρ} Z (lit 2 ⊗ PF) (Z ⊗ FF) c.scale (eqn e g (lit 1) c.bisector) tt)
      (le_scaled {ρ = ρ} Z (Z ⊗ FF) (lit 2 ⊗ PF) c.scale (eqn e g (neg (lit 1)) c.bisector) tt)

  -- the two equations, times any polynomials
  by_centre : (g h : Expr) → Zero ρ (((PX ⊕ DX ⊗ Z) ⊗ DX ⊕ (PY ⊕ DY ⊗ Z) ⊗ DY ⊖ lit 0) ⊗ g ⊕ (lit 2 ⊗ PF ⊖ Z ⊗ FF) ⊗ h)
  by_centre g h = multiple ((PX ⊕ DX ⊗ Z) ⊗ DX ⊕ (PY ⊕ DY ⊗ Z) ⊗ DY) (lit 0) g c.axle_line ⊹ multiple (lit 2 ⊗ PF) (Z ⊗ FF) h bisector_linear

  -- z(C − F1) along and across w
  front_along : dot (from_new_front f p z) (image (mirror_line d f) d) ≡ norm_sq (mirror_line d f) *ℤ dot p d
  front_along =
      equal {ρ = ρ} (UX ⊗ WX ⊕ UY ⊗ WY) (MM ⊗ (PX ⊗ DX ⊕ PY ⊗ DY)) (by_centre (lit 4 ⊗ MD ⊖ lit 2 ⊗ MM) MD) tt

  front_across : dot (from_new_front f p z) (right_normal (image (mirror_line d f) d)) ≡ norm_sq (mirror_line d f) *ℤ dot p (right_normal d)
  front_across =
      let cross = FX ⊗ DY ⊕ FY ⊗ neg DX in
      equal {ρ = ρ} (UX ⊗ WY ⊕ UY ⊗ neg WX) (MM ⊗ (PX ⊗ DY ⊕ PY ⊗ neg DX)) (by_centre (neg (lit 4) ⊗ cross) (neg cross)) tt

-- the products of u × q + w × z, as z|m|²(C − R1) is made
module _ (u w : Vec2) (q z : ℤ) where
  abbrev ρ₂ : List ℤ
  ρ₂ = u.x ∷ u.y ∷ w.x ∷ w.y ∷ q ∷ z ∷ []

  abbrev X : Expr
  X = var 0 ⊗ var 4 ⊕ var 2 ⊗ var 5

  abbrev Y : Expr
  Y = var 1 ⊗ var 4 ⊕ var 3 ⊗ var 5

  abbrev UW : Expr
  UW = var 0 ⊗ var 2 ⊕ var 1 ⊗ var 3

  sum_square : norm_sq (plus (times u q) (times w z)) ≡ q *ℤ q *ℤ norm_sq u +ℤ pos 2 *ℤ q *ℤ z *ℤ dot u w +ℤ z *ℤ z *ℤ norm_sq w
  sum_square =
      ring ρ₂ (X ⊗ X ⊕ Y ⊗ Y)
      (var 4 ⊗ var 4 ⊗ (var 0 ⊗ var 0 ⊕ var 1 ⊗ var 1) ⊕ lit 2 ⊗ var 4 ⊗ var 5 ⊗ UW ⊕ var 5 ⊗ var 5 ⊗ (var 2 ⊗ var 2 ⊕ var 3 ⊗ var 3)) tt

  sum_along : dot (plus (times u q) (times w z)) w ≡ q *ℤ dot u w +ℤ z *ℤ norm_sq w
  sum_along = ring ρ₂ (X ⊗ var 2 ⊕ Y ⊗ var 3) (var 4 ⊗ UW ⊕ var 5 ⊗ (var 2 ⊗ var 2 ⊕ var 3 ⊗ var 3)) tt

  sum_across : dot (plus (times u q) (times w z)) (right_normal w) ≡ q *ℤ dot u (right_normal w)
  sum_across = ring ρ₂ (X ⊗ var 3 ⊕ Y ⊗ neg (var 2)) (var 4 ⊗ (var 0 ⊗ var 3 ⊕ var 1 ⊗ neg (var 2))) tt

-- q = |m|², and all products with the old vectors
module _ (d p : Vec2) (q z : ℤ) where
  abbrev ρ₃ : List ℤ
  ρ₃ = d.x ∷ d.y ∷ p.x ∷ p.y ∷ q ∷ z ∷ []

  abbrev Q : Expr
  Q = var 4

  abbrev PP : Expr
  PP = var 2 ⊗ var 2 ⊕ var 3 ⊗ var 3

  abbrev PD : Expr
  PD = var 2 ⊗ var 0 ⊕ var 3 ⊗ var 1

  abbrev DD : Expr
  DD = var 0 ⊗ var 0 ⊕ var 1 ⊗ var 1

  abbrev OX : Expr
  OX = var 2 ⊕ var 0 ⊗ var 5

  abbrev OY : Expr
  OY = var 3 ⊕ var 1 ⊗ var 5

  old_square : q *ℤ q *ℤ norm_sq p +ℤ pos 2 *ℤ q *ℤ z *ℤ (q *ℤ dot p d) +ℤ z *ℤ z *ℤ (q *ℤ q *ℤ norm_sq d) ≡ q *ℤ q *ℤ norm_sq (from_old_axle d p z)
  old_square =
      ring ρ₃ (Q ⊗ Q ⊗ PP ⊕ lit 2 ⊗ Q ⊗ var 5 ⊗ (Q ⊗ PD) ⊕ var 5 ⊗ var 5 ⊗ (Q ⊗ Q ⊗ DD)) (Q ⊗ Q ⊗ (OX ⊗ OX ⊕ OY ⊗ OY)) tt

  old_along : q *ℤ (q *ℤ dot p d) +ℤ z *ℤ (q *ℤ q *ℤ norm_sq d) ≡ q *ℤ q *ℤ dot (from_old_axle d p z) d
  old_along = ring ρ₃ (Q ⊗ (Q ⊗ PD) ⊕ var 5 ⊗ (Q ⊗ Q ⊗ DD)) (Q ⊗ Q ⊗ (OX ⊗ var 0 ⊕ OY ⊗ var 1)) tt

  old_across : q *ℤ (q *ℤ dot p (right_normal d)) ≡ q *ℤ q *ℤ dot (from_old_axle d p z) (right_normal d)
  old_across = ring ρ₃ (Q ⊗ (Q ⊗ (var 2 ⊗ var 1 ⊕ var 3 ⊗ neg (var 0)))) (Q ⊗ Q ⊗ (OX ⊗ var 1 ⊕ OY ⊗ neg (var 0))) tt

turned_about : (d f p : Vec2) (z : ℤ) → Centre d f p z → TurnedAbout d f p z
turned_about d f p z c =
    let m = mirror_line d f in
    let q = norm_sq m in
    let w = image m d in
    let u = from_new_front f p z in
    let long = image_length m d in
    record {
      radius =
          sum_square u w q z
          ∙ ap₂ (λ (a b : ℤ). q *ℤ q *ℤ a +ℤ pos 2 *ℤ q *ℤ z *ℤ b +ℤ z *ℤ z *ℤ norm_sq w) (sym c.bisector) (front_along d f p z c)
          ∙ ap (λ (a : ℤ). q *ℤ q *ℤ norm_sq p +ℤ pos 2 *ℤ q *ℤ z *ℤ (q *ℤ dot p d) +ℤ z *ℤ z *ℤ a) long
          ∙ old_square d p q z;
      axle_line =
          sum_along u w q z
          ∙ ap₂ (λ (a b : ℤ). q *ℤ a +ℤ z *ℤ b) (front_along d f p z c) long
          ∙ old_along d p q z
          ∙ ap (λ (a : ℤ). q *ℤ q *ℤ a) c.axle_line
          ∙ ring (q ∷ []) (var 0 ⊗ var 0 ⊗ lit 0) (lit 0) tt;
      side = sum_across u w q z ∙ ap (λ (a : ℤ). q *ℤ a) (front_across d f p z c) ∙ old_across d p q z;
    }

-- in line with d: w − |m|²d is a multiple of f × d
in_line_lem : (d f : Vec2) → InLine d f → image (mirror_line d f) d ≡ times d (norm_sq (mirror_line d f))
in_line_lem d f h =
    let ρ : List ℤ = d.x ∷ d.y ∷ f.x ∷ f.y ∷ [] in
    let mx = var 0 ⊗ lit 2 ⊕ var 2 in
    let my = var 1 ⊗ lit 2 ⊕ var 3 in
    let along = lit 2 ⊗ (mx ⊗ var 0 ⊕ my ⊗ var 1) in
    let mm = mx ⊗ mx ⊕ my ⊗ my in
    let cross = var 2 ⊗ var 1 ⊕ var 3 ⊗ neg (var 0) in
    let ex = equal {ρ = ρ} (mx ⊗ along ⊖ var 0 ⊗ mm) (var 0 ⊗ mm) (multiple cross (lit 0) (lit 2 ⊗ my) h) tt in
    let ey = equal {ρ = ρ} (my ⊗ along ⊖ var 1 ⊗ mm) (var 1 ⊗ mm) (multiple cross (lit 0) (neg (lit 2 ⊗ mx)) h) tt in
    λ i. record { x = ex i; y = ey i }

-- off the line, a centre: with k = f × d, p = k(2|d|²n(f) + |f|²n(d)) and z = 2k²
square_positive : (z : ℤ) → (z ≡ pos 0 → ⊥) → pos 1 ≤ℤ (z *ℤ z)
square_positive (pos zero) h = absurd (h (λ i. pos zero))
square_positive (pos (suc n)) h = let one : pos 1 ≤ℤ pos (suc n) = pos-≤ (omega arith) in positive_mul one one
square_positive (negsuc n) h = let one : pos 1 ≤ℤ pos (suc n) = pos-≤ (omega arith) in positive_mul one one

module _ (d f : Vec2) where
  abbrev k : ℤ
  k = dot f (right_normal d)

  abbrev centre : Vec2
  centre = times (plus (times (right_normal f) (pos 2 *ℤ norm_sq d)) (times (right_normal d) (norm_sq f))) k

  abbrev ρ₄ : List ℤ
  ρ₄ = d.x ∷ d.y ∷ f.x ∷ f.y ∷ []

  abbrev K : Expr
  K = var 2 ⊗ var 1 ⊕ var 3 ⊗ neg (var 0)

  abbrev KK : Expr
  KK = lit 2 ⊗ (K ⊗ K)

  abbrev D2 : Expr
  D2 = lit 2 ⊗ (var 0 ⊗ var 0 ⊕ var 1 ⊗ var 1)

  abbrev F2 : Expr
  F2 = var 2 ⊗ var 2 ⊕ var 3 ⊗ var 3

  abbrev CX : Expr
  CX = (var 3 ⊗ D2 ⊕ var 1 ⊗ F2) ⊗ K

  abbrev CY : Expr
  CY = (neg (var 2) ⊗ D2 ⊕ neg (var 0) ⊗ F2) ⊗ K

  centre_met : (InLine d f → ⊥) → Centre d f centre (pos 2 *ℤ (k *ℤ k))
  centre_met off =
      let ux = CX ⊖ var 2 ⊗ KK in
      let uy = CY ⊖ var 3 ⊗ KK in
      record {
        scale = positive_mul (pos-≤ (lit≤ tt)) (square_positive k off);
        axle_line = ring ρ₄ ((CX ⊕ var 0 ⊗ KK) ⊗ var 0 ⊕ (CY ⊕ var 1 ⊗ KK) ⊗ var 1) (lit 0) tt;
        bisector = ring ρ₄ (CX ⊗ CX ⊕ CY ⊗ CY) (ux ⊗ ux ⊕ uy ⊗ uy) tt;
      }

pub rule : Construction1988
rule =
    record {
      centre = λ d f off. (centre d f, pos 2 *ℤ (k d f *ℤ k d f), centre_met d f off);
      turning = turned_about;
      in_line = in_line_lem;
    }
