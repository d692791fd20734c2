-- Products of whole numbers by their sizes and signs, and of a factor in two parts; what a machine of 64 bits holds of them.
use mathlib.Core.Path.{◌≡◌, refl, sym, ◌∙◌, ap, ap₂, subst}
use mathlib.Core.Bool.{true, false, not, cond, beq}
use Prim.Native.Nat.{ℕ, zero, suc, ◌+◌, ◌*◌, ◌/◌, ◌%◌, ◌^◌, ◌≤◌, ◌<◌}
use native.Mathlib.Nat as NatL
use native.Mathlib.Omega.{arith}
use borrow.Author.Tests.{le-ltb}
use lib.Dec.{T, ltb, ltb→lt}
use lib.IntN.{ℤ, pos, negsuc, neg_ℤ, nat_abs, ◌-ℤ◌, ◌*ℤ◌, +ℤ_idl}
use lib.Signed.{lt_z, non_neg, mag}
use mir.Syntax.{w32, w64}
use mir.Val.{Fits, SFits}
use mir.Facts.{to_z-of_z}
use Rattle.exact.specs.Size.{Within}
use Rattle.exact.proofs.Machine.{reread}
use Rattle.exact.proofs.Sizes.{within_add, within_mul, fits64}
use Rattle.plane.specs.declared.Vec2.{Vec2}
use Rattle.plane.specs.Vector.{dot}
use Rattle.unit.specs.Products.{short_most, SizeOfProduct, Dotted}

-- a test against 0 tells the sign
below_zero : (z : ℤ) → lt_z z (pos 0) ≡ not (non_neg z)
below_zero (pos n) = le-ltb n 0 (omega arith)
below_zero (negsuc k) = refl

-- the size of a number, by its sign
size_by_sign : (z : ℤ) → cond (not (non_neg z)) (pos 0 -ℤ z) z ≡ pos (nat_abs z)
size_by_sign (pos n) = refl
size_by_sign (negsuc k) = ap pos (omega arith)

pub negated : (z : ℤ) → lt_z z (pos 0) ≡ true → pos 0 -ℤ z ≡ pos (nat_abs z)
negated z e = rw (sym (below_zero z) ∙ e) at (size_by_sign z)

pub natural : (z : ℤ) → lt_z z (pos 0) ≡ false → z ≡ pos (nat_abs z)
natural z e = rw (sym (below_zero z) ∙ e) at (size_by_sign z)

-- a product has the sizes' product for its size, and is negative where one factor is
product_by_signs : (a b : ℤ) → cond (beq (not (non_neg a)) (not (non_neg b))) (pos (nat_abs a * nat_abs b)) (neg_ℤ (pos (nat_abs a * nat_abs b))) ≡ a *ℤ b
product_by_signs (pos a) (pos b) = refl
product_by_signs (pos a) (negsuc b) = refl
product_by_signs (negsuc a) (pos b) = refl
product_by_signs (negsuc a) (negsuc b) = refl

module _ (a b : ℤ) where
  pub same_signs : beq (lt_z a (pos 0)) (lt_z b (pos 0)) ≡ true → pos (nat_abs a * nat_abs b) ≡ a *ℤ b
  same_signs e = rw (rw (below_zero a, below_zero b) at e) at (product_by_signs a b)

  pub other_signs : beq (lt_z a (pos 0)) (lt_z b (pos 0)) ≡ false → pos 0 -ℤ pos (nat_abs a * nat_abs b) ≡ a *ℤ b
  other_signs e = +ℤ_idl (neg_ℤ (pos (nat_abs a * nat_abs b))) ∙ rw (rw (below_zero a, below_zero b) at e) at (product_by_signs a b)

mag_opposite : (n : ℕ) → mag (neg_ℤ (pos n)) ≤ n
mag_opposite zero = NatL.le_refl 0
mag_opposite (suc n) = NatL.le-suc n

pub opposite_fits : {n : ℕ} → n < 2 ^ 63 → SFits w64 (pos 0 -ℤ pos n)
opposite_fits {n} h = rw (+ℤ_idl (neg_ℤ (pos n))) (record { sfits = NatL.lt_of_le_of_lt (mag_opposite n) h })

-- two numbers of 32 bits
pub narrow : {a b : ℕ} → Fits w32 a → Fits w32 b → Fits w64 (a * b)
narrow {a} {b} fa fb =
    let most : a * b ≤ 4294967295 * 4294967295 = NatL.mul-le-mul {n₂ = 4294967295} {m₂ = 4294967295} (omega (arith, fa.fits)) (omega (arith, fb.fits)) in
    record { fits = omega (arith, most) }

-- the parts of b, high and low, give what b gives
pub parts : (a b p : ℕ) → a * (b / p) * p + a * (b % p) ≡ a * b
parts a b p = rw (NatL.mul_assoc, ← NatL.mul-add, NatL.div-add-mod' b p)

-- a number whose size is known is what the machine reads again
pub kept : {m : ℕ} {z : ℤ} → T (ltb m (2 ^ 63)) → Within m z → reread z ≡ z
kept t w = to_z-of_z {w = w64} (fits64 t w)

pub kept_within : {m : ℕ} {z : ℤ} → T (ltb m (2 ^ 63)) → Within m z → Within m (reread z)
kept_within {m} t w = subst (Within m) (sym (kept t w)) w

-- two such factors, whose product fits: what a function that multiplies them by sizes and signs hands on and answers
module _ {m n : ℕ} {a b : ℤ} (wa : Within m a) (wb : Within n b) (ta : T (ltb m (2 ^ 63))) (tb : T (ltb n (2 ^ 63))) (t : T (ltb (m * n) (2 ^ 63))) where
  pub by_sizes : {r x y : ℕ} → r ≡ x * y → x ≡ nat_abs (reread a) → y ≡ nat_abs (reread b) → SizeOfProduct r (reread a) (reread b)
  by_sizes {r} e ex ey =
      let size : r ≡ nat_abs a * nat_abs b = cc (kept ta wa, kept tb wb) in
      let most : nat_abs a * nat_abs b ≤ m * n = NatL.mul-le-mul wa.size wb.size in
      record { size = cc; fits = omega (arith, ltb→lt (m * n) (2 ^ 63) t) }

  pub times_exact : {x : ℤ} → x ≡ reread a *ℤ reread b → x ≡ a *ℤ b
  times_exact e = e ∙ ap₂ ◌*ℤ◌ (kept ta wa) (kept tb wb)

  pub times_within : {x : ℤ} → x ≡ reread a *ℤ reread b → Within (m * n) x
  times_within e = subst (Within (m * n)) (sym (times_exact e)) (within_mul wa wb)

  pub times_held : {x : ℤ} → x ≡ reread a *ℤ reread b → reread x ≡ a *ℤ b
  times_held e = kept t (times_within e) ∙ times_exact e

-- products of coordinates, and their sum
abbrev pub dot_most : ℕ
dot_most = short_most * short_most + short_most * short_most

pub dot_within : {a b : Vec2} → Dotted a b → Within dot_most (dot a b)
dot_within p = within_add (within_mul p.first.x p.second.x) (within_mul p.first.y p.second.y)
