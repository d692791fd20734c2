-- The order of settings: the test decides it where the wheelbases differ, and it is transitive.
use mathlib.Core.Path.{◌≡◌, refl, sym, ◌∙◌, subst, subst⁻¹}
use mathlib.Core.Logic.{inl, inr, ⊎_elim}
use mathlib.Core.Bool.{Bool, true, false, ◌&&◌, ◌||◌}
use native.Mathlib.Omega.{arith}
use native.Mathlib.Nat.{eq-or-lt_of_le}
use borrow.Author.Tests.{ltb-true, ltb-false}
use lib.Dec.{ltb}
use lib.Ieee.Bits.{is_true}
use lib.IntN.{ℤ}
use lib.Signed.{lt_z, le_z, ◌<ℤ◌, lt_z_yes, <ℤ-≤ℤ_trans}
use Rattle.exact.proofs.Order.{of_true, of_false, le_z_true, lt_z_true-≤, lt_z_false, ≤ℤ-antisym}
use Rattle.ranking.specs.declared.Setting.{Setting}
use Rattle.ranking.specs.Ranking.{is_before}
use Rattle.ranking.specs.Best.{Before}

not-≤ : (a b : ℤ) (t : Bool) → lt_z b a ≡ t → le_z a b ≡ false → b <ℤ a
not-≤ a b true q e = lt_z_yes (of_true q)
not-≤ a b false q e = absurd (of_false e (lt_z_false b a q).le)

-- what the test tells: the first stands before the second, or, with another wheelbase, after it
abbrev pub Told : Setting → Setting → Bool → Type 0
Told s t true = Before s t
Told s t false = (s.wheelbase ≡ t.wheelbase → ⊥) → Before t s

module _ (s t : Setting) where
  by : (x y z : Bool) → lt_z s.width t.width ≡ x → le_z s.width t.width ≡ y → ltb s.wheelbase t.wheelbase ≡ z → Told s t (x || (y && z))
  by true y z a b c = inl (lt_z_yes (of_true a))
  by false true true a b c = inr (≤ℤ-antisym (le_z_true b) (lt_z_false s.width t.width a), ltb-true s.wheelbase t.wheelbase c)
  by false true false a b c = λ h.
      let m = ltb-false s.wheelbase t.wheelbase c in
      inr (≤ℤ-antisym (lt_z_false s.width t.width a) (le_z_true b), ⊎_elim (λ e. absurd (h (sym e))) (λ l. l) (eq-or-lt_of_le m))
  by false false z a b c = λ h. inl (not-≤ s.width t.width (lt_z t.width s.width) refl b)

  pub told : Told s t (is_before s t)
  told = by (lt_z s.width t.width) (le_z s.width t.width) (ltb s.wheelbase t.wheelbase) refl refl refl

pub before_trans : (s t u : Setting) → Before s t → Before t u → Before s u
before_trans s t u (inl a) (inl b) = inl (<ℤ-≤ℤ_trans a (lt_z_true-≤ t.width u.width (is_true (lt_z t.width u.width) b.lt)))
before_trans s t u (inl a) (inr b) = inl (subst (λ (z : ℤ). s.width <ℤ z) b.0 a)
before_trans s t u (inr a) (inl b) = inl (subst⁻¹ (λ (z : ℤ). z <ℤ u.width) a.0 b)
before_trans s t u (inr a) (inr b) = inr (a.0 ∙ b.0, omega arith)
