-- The nearest whole number of a float that has a value, and its size.
use mathlib.Core.Path.{◌≡◌, sym, ◌∙◌, ap, subst}
use mathlib.Core.Bool.{Bool, true, false}
use Prim.Native.Nat.{ℕ, ◌*◌, ◌≤◌, ◌<◌}
use native.Mathlib.Nat.{mul_comm, le_trans, le_of_eq}
use lib.Dec.{leb→le}
use lib.IntN.{ℤ, pos}
use lib.Ieee.{Float, nan, inf, fin, up, down}
use lib.Ieee.Fits.{down_pos}
use lib.Ieee.Exact.{HasValue}
use Rattle.exact.specs.Nearest.{nearest_z, IsNearest}
use Rattle.exact.specs.Size.{Within}
use Rattle.exact.proofs.Order.{pos-≤}
use Rattle.exact.proofs.Sizes.{abs_neg_pos, ≤-size, ≥-size}
use Rattle.exact.proofs.Halves.{rule}
use Rattle.exact.proofs.NearestLaws.{nearest_bounded}
use Rattle.metres.specs.Tick.{size_at_most, Sized, signed, nearest_whole, product, tick_of, metres_most, ticks_most, TickRule}
use Rattle.metres.proofs.SignLaws.{same_nearest}
use Rattle.metres.proofs.SizeLaws.{product_sized}

pub nearest_of : (x : Float) (s : Bool) (a c : ℕ) → 0 < c → HasValue x s a c → nearest_whole x ≡ nearest_z (signed s a) (pos c)
unfolding nearest_whole
nearest_of nan s a c C h = absurd h
nearest_of (inf t) s a c C h = absurd h
nearest_of (fin t m e) s a c C h = ap (λ (u : Bool). nearest_z (signed u (m * up e)) (pos (down e))) h.0 ∙ same_nearest (m * up e) (down e) a c (down_pos e) C h.1 s

signed_within : (s : Bool) {n b : ℕ} → n ≤ b → Within b (signed s n)
signed_within false h = record { size = h }
signed_within true {n} h = record { size = rw (abs_neg_pos n) h }

whole_bound : (b : ℕ) (x : Float) → Sized b x → Within b (nearest_whole x)
unfolding size_at_most nearest_whole
whole_bound b nan h = absurd h.sized
whole_bound b (inf s) h = absurd h.sized
whole_bound b (fin s m e) h =
    let w : Within (down e * b) (signed s (m * up e)) = signed_within s (le_trans (leb→le (m * up e) (b * down e) h.sized) (le_of_eq (mul_comm b (down e)))) in
    nearest_bounded (signed s (m * up e)) (pos (down e)) b (pos-≤ (down_pos e)) (≥-size w) (≤-size w)

pub tick_bound : (x : Float) → Sized metres_most x → Within ticks_most (tick_of x)
unfolding tick_of
tick_bound x h = whole_bound ticks_most (product x) (product_sized x h)

whole_is : (y : Float) (s : Bool) (m : ℕ) (e : ℤ) → y ≡ fin s m e → nearest_whole y ≡ nearest_z (signed s (m * up e)) (pos (down e))
unfolding nearest_whole
whole_is y s m e h = ap nearest_whole h

tick_is : (x : Float) (s : Bool) (m : ℕ) (e : ℤ) → product x ≡ fin s m e → tick_of x ≡ nearest_z (signed s (m * up e)) (pos (down e))
unfolding tick_of
tick_is x s m e h = whole_is (product x) s m e h

pub tick_rule_lem : TickRule
tick_rule_lem = record {
  nearest = tick_is;
  sentence = λ x s m e h.
      subst (IsNearest (signed s (m * up e)) (pos (down e))) (sym (tick_is x s m e h))
      (rule (signed s (m * up e)) (pos (down e)) (record { positive = pos-≤ (down_pos e) }));
  finite = product_sized;
  bound = tick_bound;
}
