-- Where the hitch of a unit lies, by the laws of its offset from the rear axle.
use Prim.Native.Nat.{ℕ, ◌≤◌}
use mathlib.Core.Path.{◌≡◌, ◌∙◌, ap}
use lib.IntN.{ℤ, pos, neg_ℤ, ◌+ℤ◌, ◌-ℤ◌, ◌*ℤ◌}
use Rattle.exact.specs.Nearest.{Divisor}
use Rattle.exact.proofs.Polynomial.{◌⊕◌, ◌⊖◌, ◌⊗◌, ◌⊜◌, neg, lit, ring2, ring3}
use Rattle.exact.proofs.Order.{pos-≤}
use Rattle.plane.specs.declared.Vec2.{Vec2}
use Rattle.plane.specs.Vector.{plus}
use Rattle.unit.specs.Coupling.{hitch_offset}
use Rattle.unit.proofs.Hitching.{hitch_rule_lem}
use Rattle.walk.specs.Units.{rear_axle, hitch_at}
use Rattle.walk.specs.Hitches.{unit_with, HitchPlace}

divides : (l : ℕ) → 1 ≤ l → Divisor (pos l)
divides l p = record { positive = pos-≤ p }

pub hitch_place_lem : HitchPlace
hitch_place_lem = record {
  front = λ l limit body front d p.
      ap (λ (o : Vec2). plus (rear_axle front d) o) (hitch_rule_lem.front d (pos l) (divides l p))
      ∙ (λ i. record { x = back front.x d.x i; y = back front.y d.y i });
  axle = λ l limit body front d p.
      ap (λ (o : Vec2). plus (rear_axle front d) o) (hitch_rule_lem.axle d (pos l) (divides l p))
      ∙ (λ i. record { x = same front.x d.x i; y = same front.y d.y i });
  midway = λ l h limit body front d p.
      ap (λ (o : Vec2). plus (hitch_at (unit_with l h limit body) front d) (plus (rear_axle front d) o)) (hitch_rule_lem.behind d h (pos l) (divides l p))
      ∙ (λ i. record {
        x = twice front.x d.x (hitch_offset d h (pos l)).x i;
        y = twice front.y d.y (hitch_offset d h (pos l)).y i;
      });
}
  where
    back : (a b : ℤ) → (a -ℤ b) +ℤ b ≡ a
    back a b = ring2 a b (λ a b. (a ⊖ b) ⊕ b ⊜ a) tt

    same : (a b : ℤ) → (a -ℤ b) +ℤ pos 0 ≡ a -ℤ b
    same a b = ring2 a b (λ a b. (a ⊖ b) ⊕ lit 0 ⊜ a ⊖ b) tt

    twice : (a b o : ℤ) → (a -ℤ b +ℤ o) +ℤ (a -ℤ b +ℤ neg_ℤ o) ≡ (a -ℤ b) *ℤ pos 2
    twice a b o = ring3 a b o (λ a b o. (a ⊖ b ⊕ o) ⊕ (a ⊖ b ⊕ neg o) ⊜ (a ⊖ b) ⊗ lit 2) tt
