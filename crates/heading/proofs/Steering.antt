-- A step that was tested turns by a tangent of at most one half, and keeps the heading's length.
use mathlib.Core.Path.{◌≡◌, refl, sym, ◌∙◌, ap, ap₂, subst}
use mathlib.Core.Bool.{true, false}
use mathlib.Core.List.{[], ◌∷◌}
use Prim.Native.Nat.{ℕ, zero, suc, ◌≤◌}
use native.Mathlib.Omega.{arith}
use borrow.Author.Tests.{leb-true, ltb-false, lt-ltb}
use lib.Dec.{leb, ltb→lt, lit≤}
use native.Mathlib.Nat as NatL
use lib.IntN.{ℤ, pos, negsuc, neg_ℤ, nat_abs, ◌+ℤ◌, ◌-ℤ◌, ◌*ℤ◌, +ℤ_idl}
use lib.Signed.{◌≤ℤ◌, lt_z}
use mir.Syntax.{w64}
use mir.Val.{SFits}
use Rattle.std.proofs.lemmas.Bool.{and_parts}
use Rattle.exact.proofs.Order.{of_true, of_false, pos-≤, ≤-pos}
use Rattle.exact.specs.Size.{Within}
use Rattle.exact.proofs.NearestLaws.{nearest_bounded}
use Rattle.exact.proofs.Sizes.{abs_neg, within_add, within_mul, within_more, ≤-size, ≥-size}
use Rattle.exact.proofs.Machine.{Bounded, none, ◌∷ᵇ◌, within_size_of}
use Rattle.exact.proofs.Polynomial.{var, ◌⊕◌, ◌⊗◌}
use Rattle.plane.specs.Vector.{plus, BothModerate, Scalable}
use Rattle.plane.specs.declared.Vec2.{Vec2}
use Rattle.plane.specs.Length.{heading_length, Near}
use Rattle.job.specs.Allowed.{between}
use Rattle.job.specs.Curves.{radius_allowed}
use Rattle.heading.specs.Turn.{turned_by, heading_after, move_of, Tangent}
use Rattle.heading.specs.PathTurn.{Steerable, Movable}
use Rattle.heading.proofs.Rotation.{turned_kept, heading_within}
use Rattle.heading.proofs.Arc.{arc_is_tangent}

-- an arc's radius, by size
arc_size : (a : ℕ) → radius_allowed (pos (suc a)) ≡ true → (20000 ≤ suc a) × (suc a ≤ 1000000)
arc_size a t = let b = and_parts (leb 20000 (suc a)) (leb (suc a) 1000000) t in (leb-true 20000 (suc a) b.0, leb-true (suc a) 1000000 b.1)

-- the tangent s / (2a) to either side
tangent_of_lem : (g : Vec2) (s p : ℤ) (a : ℕ) → Near g heading_length (pos 2 *ℤ heading_length) → pos 1 ≤ℤ s → s ≤ℤ pos 20000 → nat_abs p ≡ nat_abs s
    → (20000 ≤ a) × (a ≤ 1000000) → Tangent g p (pos 2 *ℤ pos a)
tangent_of_lem g (pos n) p a h l m e b = record {
  heading = h;
  least = pos-≤ (omega arith);
  most = pos-≤ (omega arith);
  half = pos-≤ (omega (arith, ≤-pos m));
}
tangent_of_lem g (negsuc n) p a h l m e b = absurd l.le

pub right_tangent : (g : Vec2) (s r : ℤ) → Steerable g s r → lt_z (pos 0) r ≡ true → Tangent g s (pos 2 *ℤ r)
right_tangent g s (pos zero) t e = absurd (of_true e)
right_tangent g s (pos (suc a)) t e = tangent_of_lem g s s (suc a) t.heading t.least t.most refl (arc_size a t.radius)
right_tangent g s (negsuc a) t e = absurd (of_true e)

pub right_heading : (g : Vec2) (s r : ℤ) → lt_z (pos 0) r ≡ true → turned_by g s (pos 2 *ℤ r) ≡ heading_after g s r
right_heading g s (pos zero) e = absurd (of_true e)
right_heading g s (pos (suc a)) e = sym (arc_is_tangent g s (pos (suc a)) (λ q. omega (arith, ap nat_abs q)))
right_heading g s (negsuc a) e = absurd (of_true e)

-- to the left the machine computes 0 − s and 2(0 − r)
minus_negsuc : (a : ℕ) → pos 0 -ℤ negsuc a ≡ pos (suc a)
minus_negsuc a = +ℤ_idl (pos (suc a))

pub left_tangent : (g : Vec2) (s r : ℤ) → Steerable g s r → lt_z r (pos 0) ≡ true → Tangent g (pos 0 -ℤ s) (pos 2 *ℤ (pos 0 -ℤ r))
left_tangent g s (pos a) t e = absurd (omega (arith, ltb→lt a 0 (of_true e)))
left_tangent g s (negsuc a) t e =
    subst (λ (z : ℤ). Tangent g (pos 0 -ℤ s) (pos 2 *ℤ z)) (sym (minus_negsuc a))
    (tangent_of_lem g s (pos 0 -ℤ s) (suc a) t.heading t.least t.most (ap nat_abs (+ℤ_idl (neg_ℤ s)) ∙ abs_neg s) (arc_size a t.radius))

pub left_heading : (g : Vec2) (s r : ℤ) → lt_z r (pos 0) ≡ true → turned_by g (pos 0 -ℤ s) (pos 2 *ℤ (pos 0 -ℤ r)) ≡ heading_after g s r
left_heading g s (pos a) e = absurd (omega (arith, ltb→lt a 0 (of_true e)))
left_heading g s (negsuc a) e =
    ap₂ (λ (p q : ℤ). turned_by g p (pos 2 *ℤ q)) (+ℤ_idl (neg_ℤ s)) (minus_negsuc a)
    ∙ sym (arc_is_tangent g s (negsuc a) (λ q. omega (arith, ap nat_abs q)))

pub straight_heading : (g : Vec2) (s r : ℤ) → lt_z (pos 0) r ≡ false → lt_z r (pos 0) ≡ false → g ≡ heading_after g s r
straight_heading g s (pos zero) e f = refl
straight_heading g s (pos (suc a)) e f = absurd (omega (arith, ltb-false 0 (suc a) e))
straight_heading g s (negsuc a) e f = absurd (of_false f tt)

-- the new heading is a heading
pub after_near : (g : Vec2) (s r : ℤ) → Steerable g s r → Near (heading_after g s r) heading_length (pos 2 *ℤ heading_length)
after_near g s (pos zero) t = t.heading
after_near g s (pos (suc a)) t =
    let e : lt_z (pos 0) (pos (suc a)) ≡ true = lt-ltb 0 (suc a) (omega arith) in
    subst (λ (h : Vec2). Near h heading_length (pos 2 *ℤ heading_length)) (right_heading g s (pos (suc a)) e)
    (turned_kept g s (pos 2 *ℤ pos (suc a)) (right_tangent g s (pos (suc a)) t e)).length
after_near g s (negsuc a) t =
    subst (λ (h : Vec2). Near h heading_length (pos 2 *ℤ heading_length)) (left_heading g s (negsuc a) refl)
    (turned_kept g (pos 0 -ℤ s) (pos 2 *ℤ (pos 0 -ℤ negsuc a)) (left_tangent g s (negsuc a) t refl)).length

-- the sizes of a step and a radius
radius_within : (r : ℤ) → radius_allowed r ≡ true → Within 1000000 r
radius_within (pos zero) t = record { size = omega arith }
radius_within (pos (suc a)) t = record { size = (arc_size a t).1 }
radius_within (negsuc a) t = record { size = (arc_size a t).1 }

pub step_within : (s : ℤ) → pos 1 ≤ℤ s → s ≤ℤ pos 20000 → Within 20000 s
step_within (pos n) l m = record { size = ≤-pos m }
step_within (negsuc n) l m = absurd l.le

pub steering_bounds : (g : Vec2) (s r : ℤ) → Steerable g s r → Bounded (20000 ∷ 1000000 ∷ []) (s ∷ r ∷ [])
steering_bounds g s r t = step_within s t.least t.most ∷ᵇ radius_within r t.radius ∷ᵇ none

-- the move between two headings: its numbers, their sum, and the multiple of it
module _ {g h : Vec2} {s : ℤ} (t : Movable g h s) where
  pub move_bounds : Bounded (1000000 ∷ 1000000 ∷ 1000000 ∷ 1000000 ∷ 20000 ∷ []) (g.x ∷ g.y ∷ h.x ∷ h.y ∷ s ∷ [])
  move_bounds =
      let a = heading_within g t.old in
      let b = heading_within h t.new in
      a.0 ∷ᵇ a.1 ∷ᵇ b.0 ∷ᵇ b.1 ∷ᵇ step_within s t.least t.most ∷ᵇ none

  pub move_moderate : BothModerate g h
  move_moderate =
      let a = heading_within g t.old in
      let b = heading_within h t.new in
      record {
        first = record { x = within_more (lit≤ tt) a.0; y = within_more (lit≤ tt) a.1 };
        second = record { x = within_more (lit≤ tt) b.0; y = within_more (lit≤ tt) b.1 };
      }

  pub move_scalable : Scalable (plus g h) s (pos 2000000)
  move_scalable = record {
    x = within_more (lit≤ tt) (within_size_of move_bounds ((var 0 ⊕ var 2) ⊗ var 4));
    y = within_more (lit≤ tt) (within_size_of move_bounds ((var 1 ⊕ var 3) ⊗ var 4));
    divisor = record { positive = pos-≤ (lit≤ tt) };
  }

-- the opposite of a natural that fits, fits
pub minus_fits : (n : ℕ) → SFits w64 (pos n) → SFits w64 (pos 0 -ℤ pos n)
minus_fits zero f = f
minus_fits (suc n) f = subst (SFits w64) (sym (+ℤ_idl (negsuc n))) (record { sfits = omega (arith, f.sfits) })

-- the test of a signed radius, by its size
pub straight_allowed : (r : ℤ) → nat_abs r ≡ 0 → true ≡ radius_allowed r
straight_allowed (pos zero) e = refl
straight_allowed (pos (suc a)) e = absurd (omega arith)
straight_allowed (negsuc a) e = absurd (omega arith)

pub arc_allowed : (r : ℤ) → (nat_abs r ≡ 0 → ⊥) → between 20000 1000000 (nat_abs r) ≡ radius_allowed r
arc_allowed (pos zero) f = absurd (f refl)
arc_allowed (pos (suc a)) f = refl
arc_allowed (negsuc a) f = refl

-- a move is no longer than its step, by coordinate
pub move_within : (g h : Vec2) (s : ℕ) → Movable g h (pos s) → Within s (move_of g h (pos s)).x × Within s (move_of g h (pos s)).y
move_within g h s t =
    let a = heading_within g t.old in
    let b = heading_within h t.new in
    let p : Within s (pos s) = record { size = NatL.le_refl s } in
    let x = within_mul (within_add a.0 b.0) p in
    let y = within_mul (within_add a.1 b.1) p in (
      nearest_bounded ((g.x +ℤ h.x) *ℤ pos s) (pos 2000000) s (pos-≤ (lit≤ tt)) (≥-size x) (≤-size x),
      nearest_bounded ((g.y +ℤ h.y) *ℤ pos s) (pos 2000000) s (pos-≤ (lit≤ tt)) (≥-size y) (≤-size y),
    )
