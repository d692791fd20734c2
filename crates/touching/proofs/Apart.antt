-- Segments whose ranges in x or in y have nothing in common do not touch: a common point would lie in both.
use mathlib.Core.Path.{◌≡◌, refl, sym, ◌∙◌, ap}
use mathlib.Core.Bool.{Bool, true, false, false≢true}
use lib.IntN.{ℤ}
use lib.Signed.{◌≤ℤ◌, ◌<ℤ◌, le_z, clash_ℤ}
use Rattle.std.proofs.lemmas.Bool.{and_right, false_from_ne_true}
use Rattle.exact.proofs.Order.{≤ℤ-trans, le_z_true}
use Rattle.plane.specs.declared.Vec2.{Vec2}
use Rattle.touching.specs.Touch.{some_at_most, ranges_meet, touches}
use Rattle.touching.proofs.Shadows.{ranges_meet_lem}
use Rattle.touching.proofs.Common.{meeting_of}

unless : (s : Bool) {t : Bool} → (s ≡ true → t ≡ true) → t ≡ false → s ≡ false
unless true f e = absurd (false≢true (sym e ∙ f refl))
unless false f e = refl

pub apart_x : (a b c d : Vec2) → ranges_meet a.x b.x c.x d.x ≡ false → touches a b c d ≡ false
apart_x a b c d = unless (touches a b c d) λ e. let m = meeting_of a b c d e in ranges_meet_lem a.x b.x c.x d.x m.at (ap (λ (v : Vec2). v.x) m.same)

pub apart_y : (a b c d : Vec2) → ranges_meet a.y b.y c.y d.y ≡ false → touches a b c d ≡ false
apart_y a b c d = unless (touches a b c d) λ e. let m = meeting_of a b c d e in ranges_meet_lem a.y b.y c.y d.y m.at (ap (λ (v : Vec2). v.y) m.same)

-- two ranges that a number l parts: the second below it, or above it
module _ {l a b c d : ℤ} where
  pub second_below : c <ℤ l → d <ℤ l → l ≤ℤ a → l ≤ℤ b → ranges_meet a b c d ≡ false
  unfolding ranges_meet
  second_below cl dl la lb =
      let not : (p q : ℤ) → q <ℤ l → l ≤ℤ p → le_z p q ≡ false = λ p q below above. false_from_ne_true (le_z p q) λ e. clash_ℤ below (≤ℤ-trans above (le_z_true e)) in
      rw (not a c cl la, not a d dl la, not b c cl lb, not b d dl lb)

  pub second_above : l <ℤ c → l <ℤ d → a ≤ℤ l → b ≤ℤ l → ranges_meet a b c d ≡ false
  unfolding ranges_meet
  second_above lc ld al bl =
      let not : (p q : ℤ) → l <ℤ p → q ≤ℤ l → le_z p q ≡ false = λ p q above below. false_from_ne_true (le_z p q) λ e. clash_ℤ above (≤ℤ-trans (le_z_true e) below) in
      rw (not c a lc al, not c b lc bl, not d a ld al, not d b ld bl) (and_right (some_at_most a b c d) false refl)
