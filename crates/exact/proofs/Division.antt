-- Signed division by a positive number: what fits the machine, and the nearest quotient by quotient and remainder.
use mathlib.Core.Path.{◌≡◌, refl, sym, ◌∙◌, ap, subst}
use mathlib.Core.List.{List, [], ◌∷◌}
use mathlib.Core.Bool.{Bool, true, false}
use Prim.Native.Nat.{ℕ, zero, suc, ◌+◌, ◌*◌, ◌-◌, ◌/◌, ◌%◌, ◌≤◌, ◌<◌, zero-le}
use native.Mathlib.Nat as NatL
use native.Mathlib.Omega.{arith}
use lib.Dec.{ltb→lt, lit≤}
use lib.IntN.{ℤ, pos, negsuc, neg_ℤ, nat_abs, ◌+ℤ◌, ◌-ℤ◌, ◌*ℤ◌}
use lib.Signed.{◌≤ℤ◌, quot_z, rem_z, lt_z, le_z, yes_non_neg, pos-nat_abs, mag, mag_rem}
use mir.Syntax.{w64}
use mir.Val.{SFits, of_z}
use mir.ValLaws.{sfits_le}
use Rattle.exact.specs.Size.{Within}
use Rattle.exact.specs.Nearest.{nearest_z, nearest_size}
use Rattle.exact.proofs.Polynomial.{◌⊕◌, ◌⊖◌, ◌⊗◌, ◌⊜◌, neg, lit, var, ring1}
use Rattle.exact.proofs.Order.{≤ℤ-trans, of_true, of_false, le_z_true, le_z_false, lt_z_true-≤, lt_z_false, pos-≤, ≤-pos}
use Rattle.exact.proofs.Certificate.{◌⊞◌, ◌·◌, hyp, le, never}
use Rattle.exact.proofs.Sizes.{abs_neg_pos, ≤-size, ≥-size}
use Rattle.exact.proofs.NearestLaws.{rounded_down, rounded_up, nearest_within}

-- the bits of a positive number are not 0
pub bits_positive : (d : ℤ) → pos 1 ≤ℤ d → 0 < of_z w64 d
bits_positive (pos d) h = ≤-pos h
bits_positive (negsuc d) h = absurd h.le

-- quotient, remainder and nearest quotient fit where the dividend does
mag_neg : (r : ℕ) {a : ℕ} → r ≤ suc a → mag (neg_ℤ (pos r)) ≤ a
mag_neg zero h = zero-le
mag_neg (suc r) h = NatL.le_of_suc-le-suc h

quotient_mag : (n d : ℤ) → pos 1 ≤ℤ d → mag (quot_z n d) ≤ mag n
quotient_mag (pos a) (pos d) h = NatL.div-le_self a d
quotient_mag (negsuc a) (pos d) h = mag_neg (suc a / d) (NatL.div-le_self (suc a) d)
quotient_mag n (negsuc d) h = absurd h.le

pub quotient_fits : (n d : ℤ) → pos 1 ≤ℤ d → SFits w64 n → SFits w64 (quot_z n d)
quotient_fits n d h f = sfits_le (quotient_mag n d h) f

pub remainder_fits : (n d : ℤ) → SFits w64 n → SFits w64 (rem_z n d)
remainder_fits n d f = sfits_le (mag_rem n d) f

nearest_mag : (n d : ℤ) → pos 1 ≤ℤ d → mag (nearest_z n d) ≤ mag n
unfolding nearest_z
nearest_mag (pos a) d h = (nearest_within (pos a) d h).size
nearest_mag (negsuc a) d h = mag_neg (nearest_size (suc a) (nat_abs d)) (rw abs_neg_pos at (nearest_within (negsuc a) d h).size)

pub nearest_fits : (n d : ℤ) → pos 1 ≤ℤ d → SFits w64 n → SFits w64 (nearest_z n d)
nearest_fits n d h f = sfits_le (nearest_mag n d h) f

-- the remainder is no larger than the divisor
remainder_within : (n d : ℤ) → pos 1 ≤ℤ d → Within (nat_abs d) (rem_z n d)
remainder_within (pos a) (pos d) h = record { size = NatL.le_of_lt (NatL.mod-lt a (≤-pos h)) }
remainder_within (negsuc a) (pos d) h = record { size = rw (abs_neg_pos (suc a % d)) (NatL.le_of_lt (NatL.mod-lt (suc a) (≤-pos h))) }
remainder_within n (negsuc d) h = absurd h.le

fits_between : (z d : ℤ) → pos 0 ≤ℤ z → z ≤ℤ d → SFits w64 d → SFits w64 z
fits_between (pos z) (pos d) h k f = record { sfits = NatL.lt_of_le_of_lt (≤-pos k) f.sfits }
fits_between (pos z) (negsuc d) h k f = absurd k.le
fits_between (negsuc z) d h k f = absurd h.le

-- d + r, d − r and −r, with r against the sign of d, lie between 0 and d
module _ (n d : ℤ) (h : pos 1 ≤ℤ d) (f : SFits w64 d) where
  abbrev ρ : List ℤ
  ρ = d ∷ rem_z n d ∷ []

  size_d : pos (nat_abs d) ≡ d
  size_d = pos-nat_abs d (yes_non_neg (≤ℤ-trans (pos-≤ (lit≤ tt)) h))

  low : neg_ℤ d ≤ℤ rem_z n d
  low = subst (λ (x : ℤ). neg_ℤ x ≤ℤ rem_z n d) size_d (≥-size (remainder_within n d h))

  high : rem_z n d ≤ℤ d
  high = subst (λ (x : ℤ). rem_z n d ≤ℤ x) size_d (≤-size (remainder_within n d h))

  pub sum_fits : lt_z (rem_z n d) (pos 0) ≡ true → SFits w64 (d +ℤ rem_z n d)
  sum_fits s =
      fits_between _ d
      (le {ρ = ρ} (lit 0) (var 0 ⊕ var 1) (hyp (neg (var 0)) (var 1) low) tt)
      (le {ρ = ρ} (var 0 ⊕ var 1) (var 0) (hyp (var 1) (lit 0) (lt_z_true-≤ _ _ s)) tt) f

  pub negation_fits : lt_z (rem_z n d) (pos 0) ≡ true → SFits w64 (pos 0 -ℤ rem_z n d)
  negation_fits s =
      fits_between _ d
      (le {ρ = ρ} (lit 0) (lit 0 ⊖ var 1) (hyp (var 1) (lit 0) (lt_z_true-≤ _ _ s)) tt)
      (le {ρ = ρ} (lit 0 ⊖ var 1) (var 0) (hyp (neg (var 0)) (var 1) low) tt) f

  pub difference_fits : lt_z (rem_z n d) (pos 0) ≡ false → SFits w64 (d -ℤ rem_z n d)
  difference_fits s =
      fits_between _ d
      (le {ρ = ρ} (lit 0) (var 0 ⊖ var 1) (hyp (var 1) (var 0) high) tt)
      (le {ρ = ρ} (var 0 ⊖ var 1) (var 0) (hyp (lit 0) (var 1) (lt_z_false _ _ s)) tt) f

-- the remainder has the sign of the dividend
not_below : (k : ℕ) → lt_z (pos k) (pos 0) ≡ true → ⊥
not_below k e = omega (arith, ltb→lt k 0 (of_true e))

only_zero : (k : ℕ) → lt_z (neg_ℤ (pos k)) (pos 0) ≡ false → k ≡ 0
only_zero zero h = refl
only_zero (suc k) h = absurd (of_false h tt)

-- the four ways out of the code
pub below_away : (n d : ℤ) → pos 1 ≤ℤ d → lt_z (rem_z n d) (pos 0) ≡ true → le_z (d +ℤ rem_z n d) (pos 0 -ℤ rem_z n d) ≡ true → quot_z n d -ℤ pos 1 ≡ nearest_z n d
unfolding nearest_z
below_away (pos a) (pos d) h s t = absurd (not_below (a % d) s)
below_away (negsuc a) (pos d) h s t =
    let k : pos d ≤ℤ (pos 2 *ℤ pos (suc a % d)) = le {ρ = pos d ∷ pos (suc a % d) ∷ []} (var 0) (lit 2 ⊗ var 1) (hyp (var 0 ⊕ neg (var 1)) (lit 0 ⊖ neg (var 1)) (le_z_true t)) tt in
    ring1 (pos (suc a / d)) (λ q. neg q ⊖ lit 1 ⊜ neg (q ⊕ lit 1)) tt ∙ sym (ap (λ (x : ℕ). neg_ℤ (pos x)) (rounded_up (suc a) d (≤-pos k)))
below_away n (negsuc d) h s t = absurd h.le

pub below_stays : (n d : ℤ) → pos 1 ≤ℤ d → lt_z (rem_z n d) (pos 0) ≡ true → le_z (d +ℤ rem_z n d) (pos 0 -ℤ rem_z n d) ≡ false → quot_z n d ≡ nearest_z n d
unfolding nearest_z
below_stays (pos a) (pos d) h s t = absurd (not_below (a % d) s)
below_stays (negsuc a) (pos d) h s t =
    let k : (pos 2 *ℤ pos (suc a % d) +ℤ pos 1) ≤ℤ pos d = le {ρ = pos d ∷ pos (suc a % d) ∷ []} (lit 2 ⊗ var 1 ⊕ lit 1) (var 0) (hyp (lit 0 ⊖ neg (var 1) ⊕ lit 1) (var 0 ⊕ neg (var 1)) (le_z_false _ _ t)) tt in
    sym (ap (λ (x : ℕ). neg_ℤ (pos x)) (rounded_down (suc a) d (omega (arith, ≤-pos k))))
below_stays n (negsuc d) h s t = absurd h.le

pub above_away : (n d : ℤ) → pos 1 ≤ℤ d → lt_z (rem_z n d) (pos 0) ≡ false → le_z (d -ℤ rem_z n d) (rem_z n d) ≡ true → quot_z n d +ℤ pos 1 ≡ nearest_z n d
unfolding nearest_z
above_away (pos a) (pos d) h s t =
    let k : pos d ≤ℤ (pos 2 *ℤ pos (a % d)) = le {ρ = pos d ∷ pos (a % d) ∷ []} (var 0) (lit 2 ⊗ var 1) (hyp (var 0 ⊖ var 1) (var 1) (le_z_true t)) tt in
    sym (ap pos (rounded_up a d (≤-pos k)))
above_away (negsuc a) (pos d) h s t =
    absurd (never {ρ = pos d ∷ pos (suc a % d) ∷ []} 0 (hyp (var 0 ⊖ neg (var 1)) (neg (var 1)) (le_z_true t) ⊞ 2 · hyp (lit 0) (var 1) (pos-≤ zero-le) ⊞ hyp (lit 1) (var 0) h) tt)
above_away n (negsuc d) h s t = absurd h.le

pub above_stays : (n d : ℤ) → pos 1 ≤ℤ d → lt_z (rem_z n d) (pos 0) ≡ false → le_z (d -ℤ rem_z n d) (rem_z n d) ≡ false → quot_z n d ≡ nearest_z n d
unfolding nearest_z
above_stays (pos a) (pos d) h s t =
    let k : (pos 2 *ℤ pos (a % d) +ℤ pos 1) ≤ℤ pos d = le {ρ = pos d ∷ pos (a % d) ∷ []} (lit 2 ⊗ var 1 ⊕ lit 1) (var 0) (hyp (var 1 ⊕ lit 1) (var 0 ⊖ var 1) (le_z_false _ _ t)) tt in
    sym (ap pos (rounded_down a d (omega (arith, ≤-pos k))))
above_stays (negsuc a) (pos d) h s t =
    sym (ap (λ (x : ℕ). neg_ℤ (pos x)) (rounded_down (suc a) d (omega (arith, only_zero (suc a % d) s, ≤-pos h))))
above_stays n (negsuc d) h s t = absurd h.le
