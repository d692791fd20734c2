-- A signed number of 64 bits by its sign: its size, and its text, by the size too that the code takes of it. Assumes nothing.
use Prim.Native.Nat.{ℕ, suc, ◌+◌}
use mathlib.Core.Path.{◌≡◌, refl, ap}
use mathlib.Core.List.{◌∷◌}
use mathlib.Core.Bool.{true, false}
use native.Mathlib.Omega.{arith}
use lib.IntN.{ℤ, pos, negsuc, ◌-ℤ◌, nat_abs}
use lib.Signed.{mag, lt_z}
use borrow.Author.Tests.{le-ltb, ltb-true}
use mir.Syntax.{w64}
use mir.Val.{SFits, to_z, of_z}
use mir.ValLaws.{to_z-of_z}
use Rattle.text.specs.Decimal.{decimal, signed_decimal}

-- −1 − z, which fits where z does, is one less than the size
pub record Negative (z : ℤ) : Type 0 where
  pub less : negsuc 0 -ℤ z ≡ pos (mag z)
  pub size : nat_abs z ≡ mag z + 1
  pub text : signed_decimal z ≡ 45 ∷ decimal (nat_abs z)

pub record Natural (z : ℤ) : Type 0 where
  pub same : z ≡ pos (mag z)
  pub size : nat_abs z ≡ mag z
  pub text : signed_decimal z ≡ decimal (nat_abs z)

pub negative : (z : ℤ) → lt_z z (pos 0) ≡ true → Negative z
unfolding signed_decimal
negative (pos n) e = absurd (omega (arith, ltb-true n 0 e))
negative (negsuc k) e = record {
  less = rw (le-ltb (suc k) 1 (omega arith)) (ap pos (omega arith));
  size = omega arith;
  text = refl;
}

pub natural : (z : ℤ) → lt_z z (pos 0) ≡ false → Natural z
unfolding signed_decimal
natural (pos n) e = record { same = refl; size = refl; text = refl }
natural (negsuc k) e = absurd (let z : ◌≡◌ {A = ℕ} 0 1 = cc in omega arith)

-- what the code reads back from the bits
pub kept : (z : ℤ) → SFits w64 z → to_z w64 (of_z w64 z) ≡ z
kept z f = to_z-of_z w64 z f

pub kept_less : (z : ℤ) → SFits w64 z → Negative z → to_z w64 (of_z w64 (negsuc 0 -ℤ to_z w64 (of_z w64 z))) ≡ pos (mag z)
kept_less z f n = rw (kept z f, n.less) (kept (pos (mag z)) (record { sfits = f.sfits }))

-- the text by the size that the code takes of a number that it reads back from its bits
module _ (z : ℤ) (size : ℕ) (fits : SFits w64 z) (is : size ≡ nat_abs (to_z w64 (of_z w64 z))) where
  pub negative_text : lt_z (to_z w64 (of_z w64 z)) (pos 0) ≡ true → signed_decimal z ≡ 45 ∷ decimal size
  negative_text e = rw (is, kept z fits) (negative z (rw (kept z fits) at e)).text

  pub natural_text : lt_z (to_z w64 (of_z w64 z)) (pos 0) ≡ false → signed_decimal z ≡ decimal size
  natural_text e = rw (is, kept z fits) (natural z (rw (kept z fits) at e)).text
