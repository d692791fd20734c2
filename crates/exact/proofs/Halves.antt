-- The definition keeps the paper's sentence: no whole number is nearer, and none that is as near is farther from zero.
use mathlib.Core.Path.{◌≡◌, refl, sym, ◌∙◌, ap, subst}
use mathlib.Core.List.{List, [], ◌∷◌}
use mathlib.Core.Logic.{◌⊎◌, inl, inr, ⊎_elim}
use Prim.Native.Nat.{ℕ, zero, suc, ◌+◌, ◌*◌, ◌/◌, ◌%◌, ◌≤◌, ◌<◌, zero-le}
use native.Mathlib.Nat as NatL
use native.Mathlib.Omega.{arith}
use native.Mathlib.Decide.{dec_le}
use lib.IntN.{ℤ, pos, negsuc, neg_ℤ, neg_ℤ-neg_ℤ, nat_abs, ◌+ℤ◌, ◌-ℤ◌, ◌*ℤ◌}
use lib.Signed.{◌≤ℤ◌}
use Rattle.exact.specs.Nearest.{nearest_size, nearest_z, IsNearest, NearestRule}
use Rattle.exact.proofs.Polynomial.{◌⊕◌, ◌⊖◌, ◌⊗◌, ◌⊜◌, neg, lit, var, ring3}
use Rattle.exact.proofs.Order.{≤ℤ-antisym, total, by_contradiction, pos-≤, ≤-pos}
use Rattle.exact.proofs.Certificate.{NonNeg, ◌⊞◌, ◌⊠◌, ◌·◌, num, hyp, eqn, le, never}
use Rattle.exact.proofs.Sizes.{abs_neg, within}
use Rattle.exact.proofs.NearestLaws.{rounded_down, rounded_up, nearest_low, nearest_high}

-- |e| ≤ |g| from −g ≤ e ≤ g
abs-≤ : (e g : ℤ) → neg_ℤ g ≤ℤ e → e ≤ℤ g → nat_abs e ≤ nat_abs g
abs-≤ e (pos g) h k = (within h k).size
abs-≤ e (negsuc g) h k =
    absurd (never {ρ = e ∷ pos (suc g) ∷ []} 1 (hyp (neg (neg (var 1))) (var 0) h ⊞ hyp (var 0) (neg (var 1)) k ⊞ 2 · hyp (lit 1) (var 1) (pos-≤ (omega arith))) tt)

-- numbers of one size are equal or opposite
same_size : (x y : ℤ) → nat_abs x ≡ nat_abs y → (x ≡ y) ⊎ (x ≡ neg_ℤ y)
same_size (pos a) (pos b) e = inl (ap pos e)
same_size (pos a) (negsuc b) e = inr (ap pos e)
same_size (negsuc a) (pos b) e = inr (ap (λ (n : ℕ). neg_ℤ (pos n)) e)
same_size (negsuc a) (negsuc b) e = inl (ap (λ (n : ℕ). neg_ℤ (pos n)) e)

module _ (n d q p : ℤ) (d1 : pos 1 ≤ℤ d) where
  abbrev ρ : List ℤ
  ρ = n ∷ d ∷ q ∷ p ∷ []

  D : NonNeg ρ (var 1 ⊖ lit 1)
  D = hyp (lit 1) (var 1) d1

  -- none is nearer: p lies at q, above it or below it
  nearer_none : neg_ℤ d ≤ℤ (pos 2 *ℤ (d *ℤ q -ℤ n)) → (pos 2 *ℤ (d *ℤ q -ℤ n)) ≤ℤ d → nat_abs (d *ℤ q -ℤ n) ≤ nat_abs (d *ℤ p -ℤ n)
  nearer_none lo hi = ⊎_elim below above (total p q)
    where
      L : NonNeg ρ (lit 2 ⊗ (var 1 ⊗ var 2 ⊖ var 0) ⊖ neg (var 1))
      L = hyp (neg (var 1)) (lit 2 ⊗ (var 1 ⊗ var 2 ⊖ var 0)) lo

      H : NonNeg ρ (var 1 ⊖ lit 2 ⊗ (var 1 ⊗ var 2 ⊖ var 0))
      H = hyp (lit 2 ⊗ (var 1 ⊗ var 2 ⊖ var 0)) (var 1) hi

      above : (q +ℤ pos 1) ≤ℤ p → nat_abs (d *ℤ q -ℤ n) ≤ nat_abs (d *ℤ p -ℤ n)
      above g =
          let G = (D ⊞ num 1) ⊠ hyp {ρ = ρ} (var 2 ⊕ lit 1) (var 3) g in
          abs-≤ _ _
          (le {ρ = ρ} (neg (var 1 ⊗ var 3 ⊖ var 0)) (var 1 ⊗ var 2 ⊖ var 0) (G ⊞ L) tt)
          (le {ρ = ρ} (var 1 ⊗ var 2 ⊖ var 0) (var 1 ⊗ var 3 ⊖ var 0) (G ⊞ D ⊞ num 1) tt)

      below : p ≤ℤ q → nat_abs (d *ℤ q -ℤ n) ≤ nat_abs (d *ℤ p -ℤ n)
      below g = ⊎_elim at under (total q p)
        where
          at : q ≤ℤ p → nat_abs (d *ℤ q -ℤ n) ≤ nat_abs (d *ℤ p -ℤ n)
          at k = rw (≤ℤ-antisym g k) (NatL.le_refl _)

          under : (p +ℤ pos 1) ≤ℤ q → nat_abs (d *ℤ q -ℤ n) ≤ nat_abs (d *ℤ p -ℤ n)
          under k =
              let G = (D ⊞ num 1) ⊠ hyp {ρ = ρ} (var 3 ⊕ lit 1) (var 2) k in
              rw (← abs_neg (d *ℤ p -ℤ n))
              (abs-≤ _ _
              (le {ρ = ρ} (neg (neg (var 1 ⊗ var 3 ⊖ var 0))) (var 1 ⊗ var 2 ⊖ var 0) (G ⊞ D ⊞ num 1) tt)
              (le {ρ = ρ} (var 1 ⊗ var 2 ⊖ var 0) (neg (var 1 ⊗ var 3 ⊖ var 0)) (G ⊞ H) tt))

  -- none as near is farther from zero, for n ≥ 0
  farther_none : pos 0 ≤ℤ n → (pos 2 *ℤ n +ℤ pos 1) ≤ℤ (pos 2 *ℤ (d *ℤ q) +ℤ d) → nat_abs (d *ℤ p -ℤ n) ≡ nat_abs (d *ℤ q -ℤ n) → nat_abs p ≤ nat_abs q
  farther_none n0 low e = ⊎_elim equal opposite (same_size _ _ e)
    where
      opposite : d *ℤ p -ℤ n ≡ neg_ℤ (d *ℤ q -ℤ n) → nat_abs p ≤ nat_abs q
      opposite s =
          abs-≤ p q
          (by_contradiction (λ g. never {ρ = ρ} 0
          ((D ⊞ num 1) ⊠ hyp (var 3 ⊕ lit 1) (neg (var 2)) g ⊞ D ⊞ 2 · hyp (lit 0) (var 0) n0
          ⊞ eqn (var 1 ⊗ var 3 ⊖ var 0) (neg (var 1 ⊗ var 2 ⊖ var 0)) (neg (lit 1)) s) tt))
          (by_contradiction (λ g. never {ρ = ρ} 0
          ((D ⊞ num 1) ⊠ hyp (var 2 ⊕ lit 1) (var 3) g ⊞ hyp (lit 2 ⊗ var 0 ⊕ lit 1) (lit 2 ⊗ (var 1 ⊗ var 2) ⊕ var 1) low
          ⊞ eqn (var 1 ⊗ var 3 ⊖ var 0) (neg (var 1 ⊗ var 2 ⊖ var 0)) (lit 1) s) tt))

      equal : d *ℤ p -ℤ n ≡ d *ℤ q -ℤ n → nat_abs p ≤ nat_abs q
      equal s =
          rw (≤ℤ-antisym
          (by_contradiction (λ g. never {ρ = ρ} 0 ((D ⊞ num 1) ⊠ hyp (var 2 ⊕ lit 1) (var 3) g ⊞ D ⊞ eqn (var 1 ⊗ var 3 ⊖ var 0) (var 1 ⊗ var 2 ⊖ var 0) (lit 1) s) tt))
          (by_contradiction (λ g. never {ρ = ρ} 0 ((D ⊞ num 1) ⊠ hyp (var 3 ⊕ lit 1) (var 2) g ⊞ D ⊞ eqn (var 1 ⊗ var 3 ⊖ var 0) (var 1 ⊗ var 2 ⊖ var 0) (neg (lit 1)) s) tt)))
          (NatL.le_refl _)

-- the mirrored quotient is nearest to the mirrored dividend
mirrored_size : (n d p : ℤ) → nat_abs (d *ℤ neg_ℤ p -ℤ neg_ℤ n) ≡ nat_abs (d *ℤ p -ℤ n)
mirrored_size n d p = ap nat_abs (ring3 n d p (λ n d p. d ⊗ neg p ⊖ neg n ⊜ neg (d ⊗ p ⊖ n)) tt) ∙ abs_neg (d *ℤ p -ℤ n)

mirrored : (n d q : ℤ) → IsNearest n d q → IsNearest (neg_ℤ n) d (neg_ℤ q)
mirrored n d q h =
    record {
      nearest = λ p. rw (mirrored_size n d q, ← neg_ℤ-neg_ℤ p, mirrored_size n d (neg_ℤ p)) (h.nearest (neg_ℤ p));
      away = λ p e.
          rw (abs_neg q, ← abs_neg p)
          (h.away (neg_ℤ p) (sym (mirrored_size n d (neg_ℤ p)) ∙ ap (λ (z : ℤ). nat_abs (d *ℤ z -ℤ neg_ℤ n)) (neg_ℤ-neg_ℤ p) ∙ e ∙ mirrored_size n d q));
    }

-- a half goes away from zero: 2a < 2dq + d
half_away : (a d : ℕ) → 1 ≤ d → 2 * a < 2 * (d * nearest_size a d) + d
half_away a d h = by (dec_le d (2 * (a % d)))
  where
    s : d * (a / d) + a % d ≡ a
    s = NatL.div-add-mod a d

    r : a % d < d
    r = NatL.mod-lt a {m = d} h

    by : Dec (d ≤ 2 * (a % d)) → 2 * a < 2 * (d * nearest_size a d) + d
    by (yes k) = rw (rounded_up a d k) (omega (arith, s, r))
    by (no k) = rw (rounded_down a d (omega arith)) (omega (arith, s, r))

-- n ≥ 0 first
sized : (a : ℕ) (d : ℤ) → pos 1 ≤ℤ d → IsNearest (pos a) d (pos (nearest_size a (nat_abs d)))
unfolding nearest_z
sized a (pos d) h =
    let q = nearest_size a d in
    record {
      nearest = λ p. nearer_none (pos a) (pos d) (pos q) p h (nearest_low (pos a) (pos d) h) (nearest_high (pos a) (pos d) h);
      away = λ p. farther_none (pos a) (pos d) (pos q) p h (pos-≤ zero-le) (pos-≤ (omega (arith, half_away a d (≤-pos h))));
    }
sized a (negsuc d) h = absurd h.le

pub rule : NearestRule
unfolding nearest_z
rule (pos a) d h = sized a d h.positive
rule (negsuc a) d h = mirrored (pos (suc a)) d (pos (nearest_size (suc a) (nat_abs d))) (sized (suc a) d h.positive)
