-- The claim: two segments touch exactly where some point lies on both.
-- With U = B − A, V = D − C and W = C − A, the fractions p/n and q/n leave the gap Z = pU − qV − nW between the two points; they meet where it is 0.
use mathlib.Core.Path.{◌≡◌, refl, ap}
use mathlib.Core.List.{List, [], ◌∷◌}
use mathlib.Core.Bool.{true, ◌&&◌}
use mathlib.Core.Logic.{◌⊎◌, inl, inr, ⊎_elim}
use lib.IntN.{ℤ, pos, ◌-ℤ◌, ◌*ℤ◌, *ℤ_comm}
use lib.Signed.{le_z_yes}
use Rattle.std.proofs.lemmas.Bool.{and_parts}
use Rattle.exact.proofs.Polynomial.{Expr, ◌⊕◌, ◌⊖◌, ◌⊗◌, neg, lit, var, eval, equal_of_difference}
use Rattle.exact.proofs.Certificate.{◌⊞◌, sq, eqn, le, positive_mul}
use Rattle.exact.proofs.Equations.{Zero, ◌⊹◌, multiple, equal}
use Rattle.plane.specs.declared.Vec2.{Vec2}
use Rattle.plane.specs.Vector.{dot, minus, right_normal}
use Rattle.touching.specs.Touch.{overlap, touches, Part, Fractions, Meeting, TouchRule}
use Rattle.touching.proofs.Shadows.{point, point_e, Shared, ranges_meet_lem, shared}
use Rattle.touching.proofs.Products.{square_zero, zero_product, cancel, part_times}

-- vectors as polynomials
abbrev Pair : Type 0
Pair = Expr × Expr

abbrev dot_e : Pair → Pair → Expr
dot_e v w = v.0 ⊗ w.0 ⊕ v.1 ⊗ w.1

abbrev minus_e : Pair → Pair → Pair
minus_e v w = (v.0 ⊖ w.0, v.1 ⊖ w.1)

abbrev normal_e : Pair → Pair
normal_e v = (v.1, neg v.0)

-- the vector product v × w
abbrev cross : Pair → Pair → Expr
cross v w = dot_e v (normal_e w)

abbrev A : Pair
A = (var 0, var 1)

abbrev B : Pair
B = (var 2, var 3)

abbrev C : Pair
C = (var 4, var 5)

abbrev D : Pair
D = (var 6, var 7)

abbrev U : Pair
U = minus_e B A

abbrev V' : Pair
V' = minus_e D C

abbrev W : Pair
W = minus_e C A

-- the gap by coordinate, and as it is seen along m
abbrev gap_x_lem : Expr → Expr → Expr → Expr
gap_x_lem n p q = point_e A.0 B.0 n p ⊖ point_e C.0 D.0 n q

abbrev gap_y_lem : Expr → Expr → Expr → Expr
gap_y_lem n p q = point_e A.1 B.1 n p ⊖ point_e C.1 D.1 n q

abbrev gap : Pair → Expr → Expr → Expr → Expr
gap m n p q = point_e (dot_e m A) (dot_e m B) n p ⊖ point_e (dot_e m C) (dot_e m D) n q

module _ (a b c d : Vec2) where
  abbrev coordinates : List ℤ → List ℤ
  coordinates ρ = a.x ∷ a.y ∷ b.x ∷ b.y ∷ c.x ∷ c.y ∷ d.x ∷ d.y ∷ ρ

  -- a common point is shared along every direction
  along : (m : Vec2) → Meeting a b c d → overlap m a b c d ≡ true
  unfolding overlap
  along m t =
      let f = t.at in
      let N = var 8 in
      let P = var 9 in
      let Q = var 10 in
      let M : Pair = (var 11, var 12) in
      let e : point (dot m a) (dot m b) f.n f.p ≡ point (dot m c) (dot m d) f.n f.q =
      equal {ρ = coordinates (f.n ∷ f.p ∷ f.q ∷ m.x ∷ m.y ∷ [])} (point_e (dot_e M A) (dot_e M B) N P) (point_e (dot_e M C) (dot_e M D) N Q)
      (multiple (point_e A.0 B.0 N P) (point_e C.0 D.0 N Q) M.0 (ap (λ (v : Vec2). v.x) t.same)
      ⊹ multiple (point_e A.1 B.1 N P) (point_e C.1 D.1 N Q) M.1 (ap (λ (v : Vec2). v.y) t.same)) tt in
      ranges_meet_lem (dot m a) (dot m b) (dot m c) (dot m d) f e

  touches_of : Meeting a b c d → touches a b c d ≡ true
  unfolding touches
  touches_of t = let seen : (m : Vec2) → overlap m a b c d ≡ true = λ m. along m t in simp seen

  -- what an overlap shows
  abbrev Seen : Vec2 → Type 0
  Seen m = Shared (dot m a) (dot m b) (dot m c) (dot m d)

  seen : (m : Vec2) → overlap m a b c d ≡ true → Seen m
  unfolding overlap
  seen m e = shared (dot m a) (dot m b) (dot m c) (dot m d) e

  abbrev gap_x : Fractions → ℤ
  gap_x f = point a.x b.x f.n f.p -ℤ point c.x d.x f.n f.q

  abbrev gap_y : Fractions → ℤ
  gap_y f = point a.y b.y f.n f.p -ℤ point c.y d.y f.n f.q

  meeting : (f : Fractions) → gap_x f ≡ pos 0 → gap_y f ≡ pos 0 → Meeting a b c d
  meeting f x y =
      let ex = equal_of_difference (point a.x b.x f.n f.p) (point c.x d.x f.n f.q) x in
      let ey = equal_of_difference (point a.y b.y f.n f.p) (point c.y d.y f.n f.q) y in
      record { at = f; same = λ i. record { x = ex i; y = ey i } }

  -- where k times the gap is 0, k is 0 or the points meet
  meets : (k : ℤ) (f : Fractions) → k *ℤ gap_x f ≡ pos 0 → k *ℤ gap_y f ≡ pos 0 → (k ≡ pos 0) ⊎ Meeting a b c d
  meets k f hx hy = ⊎_elim inl (λ x. ⊎_elim inl (λ y. inr (meeting f x y)) (zero_product k (gap_y f) hy)) (zero_product k (gap_x f) hx)

  module _ (F : Seen (right_normal (minus b a))) (G : Seen (right_normal (minus d c))) (H : Seen (minus c a)) where
    abbrev ρ : List ℤ
    ρ = coordinates (F.at.n ∷ F.at.p ∷ F.at.q ∷ G.at.n ∷ G.at.p ∷ G.at.q ∷ [])

    -- across AB:  (U × V)q = (W × U)n
    by_ab : (g : Expr) → Zero ρ (gap (normal_e U) (var 8) (var 9) (var 10) ⊗ g)
    by_ab g = multiple (point_e (dot_e (normal_e U) A) (dot_e (normal_e U) B) (var 8) (var 9)) (point_e (dot_e (normal_e U) C) (dot_e (normal_e U) D) (var 8) (var 10)) g F.same

    -- across CD:  (U × V)p = (W × V)n
    by_cd : (g : Expr) → Zero ρ (gap (normal_e V') (var 11) (var 12) (var 13) ⊗ g)
    by_cd g = multiple (point_e (dot_e (normal_e V') A) (dot_e (normal_e V') B) (var 11) (var 12)) (point_e (dot_e (normal_e V') C) (dot_e (normal_e V') D) (var 11) (var 13)) g G.same

    -- lines that cross: p/n as it is seen across CD and q/n as it is seen across AB.  (U × V)W = (W × V)U − (W × U)V
    crossing : (eval (cross U V') ρ ≡ pos 0) ⊎ Meeting a b c d
    crossing =
        let f = F.at in
        let g = G.at in
        let N = var 8 ⊗ var 11 in
        let P = var 12 ⊗ var 8 in
        let Q = var 10 ⊗ var 11 in
        meets (eval (cross U V') ρ)
        (record {
          n = f.n *ℤ g.n;
          p = g.p *ℤ f.n;
          q = f.q *ℤ g.n;
          divisor = positive_mul f.divisor g.divisor;
          first = part_times f.divisor (*ℤ_comm f.n g.n) g.first;
          second = part_times g.divisor refl f.second;
        })
        (equal {ρ = ρ} (cross U V' ⊗ gap_x_lem N P Q) (lit 0) (by_cd (var 8 ⊗ U.0) ⊹ by_ab (neg (var 11 ⊗ V'.0))) tt)
        (equal {ρ = ρ} (cross U V' ⊗ gap_y_lem N P Q) (lit 0) (by_cd (var 8 ⊗ U.1) ⊹ by_ab (neg (var 11 ⊗ V'.1))) tt)

    -- parallel lines, U × V = 0: then all lies in one line
    module _ (e : eval (cross U V') ρ ≡ pos 0) where
      W×V : eval (cross W V') ρ ≡ pos 0
      W×V = cancel G.at.n (eval (cross W V') ρ) G.at.divisor (equal {ρ = ρ} (var 11 ⊗ cross W V') (lit 0) (by_cd (neg (lit 1)) ⊹ multiple (cross U V') (lit 0) (var 12) e) tt)

      W×U : eval (cross W U) ρ ≡ pos 0
      W×U = cancel F.at.n (eval (cross W U) ρ) F.at.divisor (equal {ρ = ρ} (var 8 ⊗ cross W U) (lit 0) (by_ab (neg (lit 1)) ⊹ multiple (cross U V') (lit 0) (var 10) e) tt)

      abbrev σ : List ℤ
      σ = coordinates (H.at.n ∷ H.at.p ∷ H.at.q ∷ [])

      by_w : (g : Expr) → Zero σ (gap W (var 8) (var 9) (var 10) ⊗ g)
      by_w g = multiple (point_e (dot_e W A) (dot_e W B) (var 8) (var 9)) (point_e (dot_e W C) (dot_e W D) (var 8) (var 10)) g H.same

      -- W × Z = p(W × U) − q(W × V)
      by_line : (g : Expr) → Zero σ ((cross W U ⊖ lit 0) ⊗ (var 9 ⊗ g) ⊕ (cross W V' ⊖ lit 0) ⊗ neg (var 10 ⊗ g))
      by_line g = multiple (cross W U) (lit 0) (var 9 ⊗ g) W×U ⊹ multiple (cross W V') (lit 0) (neg (var 10 ⊗ g)) W×V

      -- so the fractions seen along W serve:  |W|²Z = (W · Z)W + (W × Z)(−Wy, Wx)
      in_line_lem : (eval (dot_e W W) ρ ≡ pos 0) ⊎ Meeting a b c d
      in_line_lem =
          meets (eval (dot_e W W) ρ) H.at
          (equal {ρ = σ} (dot_e W W ⊗ gap_x_lem (var 8) (var 9) (var 10)) (lit 0) (by_w W.0 ⊹ by_line (neg W.1)) tt)
          (equal {ρ = σ} (dot_e W W ⊗ gap_y_lem (var 8) (var 9) (var 10)) (lit 0) (by_w W.1 ⊹ by_line W.0) tt)

    -- |W|² = 0: A is C
    one_start : eval (dot_e W W) ρ ≡ pos 0 → Meeting a b c d
    one_start e =
        let x = square_zero (eval W.0 ρ) (le {ρ = ρ} (W.0 ⊗ W.0) (lit 0) (sq W.1 ⊞ eqn (dot_e W W) (lit 0) (lit 1) e) tt) in
        let y = square_zero (eval W.1 ρ) (le {ρ = ρ} (W.1 ⊗ W.1) (lit 0) (sq W.0 ⊞ eqn (dot_e W W) (lit 0) (lit 1) e) tt) in
        let none : Part (pos 0) (pos 1) = record { least = le_z_yes tt; most = le_z_yes tt } in
        meeting (record { n = pos 1; p = pos 0; q = pos 0; divisor = le_z_yes tt; first = none; second = none })
        (equal {ρ = ρ} (gap_x_lem (lit 1) (lit 0) (lit 0)) (lit 0) (multiple W.0 (lit 0) (neg (lit 1)) x) tt)
        (equal {ρ = ρ} (gap_y_lem (lit 1) (lit 0) (lit 0)) (lit 0) (multiple W.1 (lit 0) (neg (lit 1)) y) tt)

    found : Meeting a b c d
    found = ⊎_elim (λ e. ⊎_elim one_start (λ t. t) (in_line_lem e)) (λ t. t) crossing

  pub meeting_of : touches a b c d ≡ true → Meeting a b c d
  unfolding touches
  meeting_of e =
      let h = and_parts (overlap (right_normal (minus b a)) a b c d && overlap (right_normal (minus d c)) a b c d) (overlap (minus c a) a b c d) e in
      let k = and_parts (overlap (right_normal (minus b a)) a b c d) (overlap (right_normal (minus d c)) a b c d) h.0 in
      found (seen (right_normal (minus b a)) k.0) (seen (right_normal (minus d c)) k.1) (seen (minus c a) h.1)

pub rule : TouchRule
rule a b c d = (meeting_of a b c d, touches_of a b c d)
