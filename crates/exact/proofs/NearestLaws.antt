-- The laws of the nearest quotient: half a unit both ways, odd, exact on multiples, no larger than the dividend.
-- Everything outside this crate goes by these alone, so that the rule for halves can change behind the name.
use mathlib.Core.Path.{◌≡◌, refl, sym, ◌∙◌, ap, subst}
use mathlib.Core.List.{List, [], ◌∷◌}
use Prim.Native.Nat.{ℕ, zero, suc, ◌+◌, ◌*◌, ◌/◌, ◌%◌, ◌≤◌, ◌<◌, zero-le}
use native.Mathlib.Nat as NatL
use native.Mathlib.Omega.{arith}
use native.Mathlib.Decide.{dec_le}
use borrow.Author.Tests.{lt-ltb, le-ltb}
use lib.IntN.{ℤ, pos, negsuc, neg_ℤ, neg_ℤ-neg_ℤ, nat_abs, ◌+ℤ◌, ◌-ℤ◌, ◌*ℤ◌}
use lib.Signed.{◌≤ℤ◌}
use Rattle.exact.specs.Size.{Within}
use Rattle.exact.specs.Nearest.{half_to, nearest_size, nearest_z}
use Rattle.exact.proofs.Polynomial.{Expr, ◌⊕◌, ◌⊖◌, ◌⊗◌, ◌⊜◌, neg, lit, var, ring3}
use Rattle.exact.proofs.Order.{≤ℤ-antisym, by_contradiction, pos-≤, ≤-pos}
use Rattle.exact.proofs.Certificate.{◌⊞◌, ◌⊠◌, ◌·◌, num, hyp, le, never}
use Rattle.exact.proofs.Sizes.{abs_neg_pos, within}

-- the three ways a size is rounded
module _ (a d : ℕ) where
  pub rounded_down : 2 * (a % d) < d → nearest_size a d ≡ a / d
  unfolding nearest_size
  rounded_down h = rw (lt-ltb _ _ h)

  rounded_above : d < 2 * (a % d) → nearest_size a d ≡ a / d + 1
  unfolding nearest_size
  rounded_above h = rw (le-ltb _ _ (NatL.le_of_lt h), lt-ltb _ _ h)

  rounded_half : 2 * (a % d) ≡ d → nearest_size a d ≡ half_to (a / d)
  unfolding nearest_size
  rounded_half e = rw (le-ltb (2 * (a % d)) d (omega arith), le-ltb d (2 * (a % d)) (omega arith))

  -- from a half on, up
  pub rounded_up : d ≤ 2 * (a % d) → nearest_size a d ≡ a / d + 1
  unfolding half_to
  rounded_up h = by (dec_le (2 * (a % d)) d)
    where
      by : Dec (2 * (a % d) ≤ d) → nearest_size a d ≡ a / d + 1
      by (yes k) = rounded_half (omega arith)
      by (no k) = rounded_above (omega arith)

half_between : (q : ℕ) → (q ≤ half_to q) × (half_to q ≤ q + 1)
unfolding half_to
half_between q = (omega arith, omega arith)

-- half a unit for sizes: 2a ≤ 2dq + d and 2dq ≤ 2a + d, whichever way a half goes
module _ (a d : ℕ) (h : 1 ≤ d) where
  pub size_half_unit : (2 * a ≤ 2 * (d * nearest_size a d) + d) × (2 * (d * nearest_size a d) ≤ 2 * a + d)
  size_half_unit = by (dec_le d (2 * (a % d))) (dec_le (2 * (a % d)) d)
    where
      s : d * (a / d) + a % d ≡ a
      s = NatL.div-add-mod a d

      r : a % d < d
      r = NatL.mod-lt a {m = d} h

      at_half : (q : ℕ) → (a / d ≤ q) × (q ≤ a / d + 1) → 2 * (a % d) ≡ d → (2 * a ≤ 2 * (d * q) + d) × (2 * (d * q) ≤ 2 * a + d)
      at_half q b e =
          let lo = NatL.mul-le-mul_left d b.0 in
          let hi = NatL.mul-le-mul_left d b.1 in
          (omega (arith, s, r), omega (arith, s, r))

      by : Dec (d ≤ 2 * (a % d)) → Dec (2 * (a % d) ≤ d) → (2 * a ≤ 2 * (d * nearest_size a d) + d) × (2 * (d * nearest_size a d) ≤ 2 * a + d)
      by (no k) m = rw (rounded_down a d (omega arith)) (omega (arith, s, r), omega (arith, s, r))
      by (yes k) (no m) = rw (rounded_above a d (omega arith)) (omega (arith, s, r), omega (arith, s, r))
      by (yes k) (yes m) = rw (rounded_half a d (omega arith)) (at_half (half_to (a / d)) (half_between (a / d)) (omega arith))

  abbrev ρ : List ℤ
  ρ = pos a ∷ pos d ∷ pos (nearest_size a d) ∷ []

  abbrev E : Expr
  E = lit 2 ⊗ (var 1 ⊗ var 2 ⊖ var 0)

  size_high : (pos 2 *ℤ (pos d *ℤ pos (nearest_size a d) -ℤ pos a)) ≤ℤ pos d
  size_high = le {ρ = ρ} E (var 1) (hyp (lit 2 ⊗ (var 1 ⊗ var 2)) (lit 2 ⊗ var 0 ⊕ var 1) (pos-≤ size_half_unit.1)) tt

  size_low : neg_ℤ (pos d) ≤ℤ (pos 2 *ℤ (pos d *ℤ pos (nearest_size a d) -ℤ pos a))
  size_low = le {ρ = ρ} (neg (var 1)) E (hyp (lit 2 ⊗ var 0) (lit 2 ⊗ (var 1 ⊗ var 2) ⊕ var 1) (pos-≤ size_half_unit.0)) tt

  size-≤ : nearest_size a d ≤ a
  size-≤ = ≤-pos (by_contradiction (λ g.
      let D = hyp {ρ = ρ} (lit 1) (var 1) (pos-≤ h) in
      let G = hyp {ρ = ρ} (var 0 ⊕ lit 1) (var 2) g in
      never 0 (hyp E (var 1) size_high ⊞ 2 · ((D ⊞ num 1) ⊠ G) ⊞ 2 · (hyp (lit 0) (var 0) (pos-≤ zero-le) ⊠ D) ⊞ D) tt))

-- odd around zero
pub nearest_odd : (n d : ℤ) → pos 1 ≤ℤ d → nearest_z (neg_ℤ n) d ≡ neg_ℤ (nearest_z n d)
unfolding nearest_z
nearest_odd (pos zero) (pos d) h =
    let none : nearest_size 0 d ≡ 0 = omega (arith, size-≤ 0 d (≤-pos h)) in
    ap pos none ∙ sym (ap (λ (x : ℕ). neg_ℤ (pos x)) none)
nearest_odd (pos (suc n)) (pos d) h = refl
nearest_odd (negsuc n) (pos d) h = sym (neg_ℤ-neg_ℤ (pos (nearest_size (suc n) d)))
nearest_odd n (negsuc d) h = absurd h.le

-- the scaled error of a mirrored quotient
mirrored_error : (n d : ℤ) → pos 1 ≤ℤ d → pos 2 *ℤ (d *ℤ nearest_z (neg_ℤ n) d -ℤ neg_ℤ n) ≡ neg_ℤ (pos 2 *ℤ (d *ℤ nearest_z n d -ℤ n))
mirrored_error n d h =
    ap (λ (q : ℤ). pos 2 *ℤ (d *ℤ q -ℤ neg_ℤ n)) (nearest_odd n d h)
    ∙ ring3 n d (nearest_z n d) (λ n d q. lit 2 ⊗ (d ⊗ neg q ⊖ neg n) ⊜ neg (lit 2 ⊗ (d ⊗ q ⊖ n))) tt

-- half a unit: −d ≤ 2(dq − n) ≤ d
abbrev HalfUnit : ℤ → ℤ → Type 0
HalfUnit n d = (neg_ℤ d ≤ℤ (pos 2 *ℤ (d *ℤ nearest_z n d -ℤ n))) × ((pos 2 *ℤ (d *ℤ nearest_z n d -ℤ n)) ≤ℤ d)

mirrored_half_unit : (n d : ℤ) → pos 1 ≤ℤ d → HalfUnit n d → HalfUnit (neg_ℤ n) d
mirrored_half_unit n d h k =
    let ρ : List ℤ = d ∷ (pos 2 *ℤ (d *ℤ nearest_z n d -ℤ n)) ∷ [] in
    subst (λ (e : ℤ). (neg_ℤ d ≤ℤ e) × (e ≤ℤ d)) (sym (mirrored_error n d h))
    (le {ρ = ρ} (neg (var 0)) (neg (var 1)) (hyp (var 1) (var 0) k.1) tt, le {ρ = ρ} (neg (var 1)) (var 0) (hyp (neg (var 0)) (var 1) k.0) tt)

half_unit : (n d : ℤ) → pos 1 ≤ℤ d → HalfUnit n d
unfolding nearest_z
half_unit (pos a) (pos d) h = (size_low a d (≤-pos h), size_high a d (≤-pos h))
half_unit (negsuc a) (pos d) h = mirrored_half_unit (pos (suc a)) (pos d) h (size_low (suc a) d (≤-pos h), size_high (suc a) d (≤-pos h))
half_unit n (negsuc d) h = absurd h.le

pub nearest_low : (n d : ℤ) → pos 1 ≤ℤ d → neg_ℤ d ≤ℤ (pos 2 *ℤ (d *ℤ nearest_z n d -ℤ n))
nearest_low n d h = (half_unit n d h).0

pub nearest_high : (n d : ℤ) → pos 1 ≤ℤ d → (pos 2 *ℤ (d *ℤ nearest_z n d -ℤ n)) ≤ℤ d
nearest_high n d h = (half_unit n d h).1

-- no larger than the dividend
pub nearest_within : (n d : ℤ) → pos 1 ≤ℤ d → Within (nat_abs n) (nearest_z n d)
unfolding nearest_z
nearest_within (pos a) (pos d) h = record { size = size-≤ a d (≤-pos h) }
nearest_within (negsuc a) (pos d) h = record { size = rw (abs_neg_pos (nearest_size (suc a) d)) (size-≤ (suc a) d (≤-pos h)) }
nearest_within n (negsuc d) h = absurd h.le

-- exact on multiples
pub nearest_multiple : (q d : ℤ) → pos 1 ≤ℤ d → nearest_z (d *ℤ q) d ≡ q
nearest_multiple q d h =
    let p = nearest_z (d *ℤ q) d in
    let ρ : List ℤ = p ∷ q ∷ d ∷ [] in
    let E = lit 2 ⊗ (var 2 ⊗ var 0 ⊖ var 2 ⊗ var 1) in
    let D = hyp {ρ = ρ} (lit 1) (var 2) h in
    let H = hyp {ρ = ρ} E (var 2) (nearest_high (d *ℤ q) d h) in
    let L = hyp {ρ = ρ} (neg (var 2)) E (nearest_low (d *ℤ q) d h) in
    ≤ℤ-antisym
    (by_contradiction (λ g. let G = hyp {ρ = ρ} (var 1 ⊕ lit 1) (var 0) g in never 0 (H ⊞ 2 · ((D ⊞ num 1) ⊠ G) ⊞ D) tt))
    (by_contradiction (λ g. let G = hyp {ρ = ρ} (var 0 ⊕ lit 1) (var 1) g in never 0 (L ⊞ 2 · ((D ⊞ num 1) ⊠ G) ⊞ D) tt))

-- no larger than a bound of the exact quotient
pub nearest_bounded : (n d : ℤ) (b : ℕ) → pos 1 ≤ℤ d → neg_ℤ (d *ℤ pos b) ≤ℤ n → n ≤ℤ (d *ℤ pos b) → Within b (nearest_z n d)
nearest_bounded n d b h low high =
    let ρ : List ℤ = nearest_z n d ∷ n ∷ d ∷ pos b ∷ [] in
    let E = lit 2 ⊗ (var 2 ⊗ var 0 ⊖ var 1) in
    let D = hyp {ρ = ρ} (lit 1) (var 2) h in
    let H = hyp {ρ = ρ} E (var 2) (nearest_high n d h) in
    let L = hyp {ρ = ρ} (neg (var 2)) E (nearest_low n d h) in
    within
    (by_contradiction (λ g. let G = hyp {ρ = ρ} (var 0 ⊕ lit 1) (neg (var 3)) g in never 0 (L ⊞ 2 · hyp (neg (var 2 ⊗ var 3)) (var 1) low ⊞ 2 · ((D ⊞ num 1) ⊠ G) ⊞ D) tt))
    (by_contradiction (λ g. let G = hyp {ρ = ρ} (var 3 ⊕ lit 1) (var 0) g in never 0 (H ⊞ 2 · hyp (var 1) (var 2 ⊗ var 3) high ⊞ 2 · ((D ⊞ num 1) ⊠ G) ⊞ D) tt))
