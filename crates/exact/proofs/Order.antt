-- The order of ℤ: its laws, one number or the other is the smaller, and an order as a test's outcome.
use mathlib.Core.Path.{◌≡◌, sym, ◌∙◌, ap, subst}
use mathlib.Core.Bool.{Bool, true, false, not}
use mathlib.Core.Logic.{◌⊎◌, inl, inr, ⊎_elim}
use Prim.Native.Nat.{ℕ, zero, suc, ◌+◌, ◌*◌, ◌-◌, ◌≤◌, zero-le}
use native.Mathlib.Nat as NatL
use native.Mathlib.Omega.{arith}
use native.Mathlib.Decide.{dec_le}
use lib.Dec.{T, leb→le, le→leb, ltb→lt}
use lib.IntN.{ℤ, pos, negsuc, neg_ℤ, suc_ℤ, nat_abs, ◌+ℤ◌, ◌-ℤ◌, ◌*ℤ◌, +ℤ-suc_ℤ, +ℤ_idr, +ℤ_one}
use lib.Signed.{◌≤ℤ◌, ◌<ℤ◌, le_z, lt_z, ≤ℤ_refl, lt_z_no, yes_non_neg, pos-nat_abs}
use Rattle.exact.proofs.Polynomial.{◌⊜◌, ◌⊕◌, ◌⊖◌, neg, ring2}

-- a test that came out true, or false
pub of_true : {b : Bool} → b ≡ true → T b
of_true e = subst T (sym e) tt

pub of_false : {b : Bool} → b ≡ false → T b → ⊥
of_false e t = subst T e t

-- transitive and antisymmetric
trans' : (a b c : ℤ) → T (le_z a b) → T (le_z b c) → T (le_z a c)
trans' (pos a) (pos b) (pos c) h k = omega (arith, leb→le, le→leb)
trans' (pos a) (pos b) (negsuc c) h k = k
trans' (pos a) (negsuc b) c h k = absurd h
trans' (negsuc a) (pos b) (pos c) h k = tt
trans' (negsuc a) (pos b) (negsuc c) h k = absurd k
trans' (negsuc a) (negsuc b) (pos c) h k = tt
trans' (negsuc a) (negsuc b) (negsuc c) h k = omega (arith, leb→le, le→leb)

pub ≤ℤ-trans : {a b c : ℤ} → a ≤ℤ b → b ≤ℤ c → a ≤ℤ c
≤ℤ-trans {a} {b} {c} h k = record { le = trans' a b c h.le k.le }

antisym' : (a b : ℤ) → T (le_z a b) → T (le_z b a) → a ≡ b
antisym' (pos a) (pos b) h k = ap pos (omega (arith, leb→le))
antisym' (pos a) (negsuc b) h k = absurd h
antisym' (negsuc a) (pos b) h k = absurd k
antisym' (negsuc a) (negsuc b) h k = ap negsuc (omega (arith, leb→le))

pub ≤ℤ-antisym : {a b : ℤ} → a ≤ℤ b → b ≤ℤ a → a ≡ b
≤ℤ-antisym {a} {b} h k = antisym' a b h.le k.le

-- naturals among the whole numbers
pub pos-≤ : {a b : ℕ} → a ≤ b → pos a ≤ℤ pos b
pos-≤ {a} {b} h = record { le = le→leb a b h }

pub ≤-pos : {a b : ℕ} → pos a ≤ℤ pos b → a ≤ b
≤-pos {a} {b} h = leb→le a b h.le

-- a ≤ b or b + 1 ≤ a
pos_total : (a b : ℕ) → Dec (a ≤ b) → (pos a ≤ℤ pos b) ⊎ (pos (suc b) ≤ℤ pos a)
pos_total a b (yes h) = inl (record { le = le→leb a b h })
pos_total a b (no f) = inr (record { le = omega (arith, le→leb) })

neg_total : (a b : ℕ) → Dec (b ≤ a) → (negsuc a ≤ℤ negsuc b) ⊎ (suc_ℤ (negsuc b) ≤ℤ negsuc a)
neg_total a b (yes h) = inl (record { le = le→leb b a h })
neg_total a zero (no f) = absurd (f zero-le)
neg_total a (suc b) (no f) = inr (record { le = omega (arith, le→leb) })

total' : (a b : ℤ) → (a ≤ℤ b) ⊎ (suc_ℤ b ≤ℤ a)
total' (pos a) (pos b) = pos_total a b (dec_le a b)
total' (pos a) (negsuc zero) = inr (record { le = le→leb 0 a zero-le })
total' (pos a) (negsuc (suc b)) = inr (record { le = tt })
total' (negsuc a) (pos b) = inl (record { le = tt })
total' (negsuc a) (negsuc b) = neg_total a b (dec_le b a)

pub total : (a b : ℤ) → (a ≤ℤ b) ⊎ ((b +ℤ pos 1) ≤ℤ a)
total a b = subst (λ (z : ℤ). (a ≤ℤ b) ⊎ (z ≤ℤ a)) (sym (+ℤ_one b)) (total' a b)

pub by_contradiction : {a b : ℤ} → ((b +ℤ pos 1) ≤ℤ a → ⊥) → a ≤ℤ b
by_contradiction {a} {b} f = ⊎_elim (λ h. h) (λ h. absurd (f h)) (total a b)

-- the outcome of a signed test, as an order
pub le_z_true : {a b : ℤ} → le_z a b ≡ true → a ≤ℤ b
le_z_true e = record { le = of_true e }

pub le_z_false : (a b : ℤ) → le_z a b ≡ false → (b +ℤ pos 1) ≤ℤ a
le_z_false a b e = ⊎_elim (λ h. absurd (of_false e h.le)) (λ h. h) (total a b)

lt-≤' : (a b : ℤ) → T (lt_z a b) → T (le_z a b)
lt-≤' (pos a) (pos b) h = le→leb a b (NatL.le_of_lt (ltb→lt a b h))
lt-≤' (pos a) (negsuc b) h = h
lt-≤' (negsuc a) (pos b) h = tt
lt-≤' (negsuc a) (negsuc b) h = le→leb b a (NatL.le_of_lt (ltb→lt b a h))

pub lt_z_true-≤ : (a b : ℤ) → lt_z a b ≡ true → a ≤ℤ b
lt_z_true-≤ a b e = record { le = lt-≤' a b (of_true e) }

pub lt_z_false : (a b : ℤ) → lt_z a b ≡ false → b ≤ℤ a
lt_z_false a b e = lt_z_no (subst (λ (x : Bool). T (not x)) (sym e) tt)

-- adding a natural
suc-≤ : (z : ℤ) → T (le_z z (suc_ℤ z))
suc-≤ (pos n) = omega (arith, le→leb)
suc-≤ (negsuc zero) = tt
suc-≤ (negsuc (suc n)) = omega (arith, le→leb)

≤-plus : (a : ℤ) (n : ℕ) → a ≤ℤ (a +ℤ pos n)
≤-plus a zero = subst (λ (z : ℤ). a ≤ℤ z) (sym (+ℤ_idr a)) (≤ℤ_refl a)
≤-plus a (suc n) = subst (λ (z : ℤ). a ≤ℤ z) (sym (+ℤ-suc_ℤ a (pos n))) (≤ℤ-trans (≤-plus a n) (record { le = suc-≤ (a +ℤ pos n) }))

-- a ≤ b where b = a + n for some natural n
gap : (a b : ℤ) → T (le_z a b) → (n : ℕ) × (b ≡ a +ℤ pos n)
gap (pos a) (pos b) h = (b - a, ap pos (omega (arith, leb→le)))
gap (pos a) (negsuc b) h = absurd h
gap (negsuc a) (pos b) h = (b + suc a, ring2 (pos b) (pos (suc a)) (λ x y. x ⊜ neg y ⊕ (x ⊕ y)) tt)
gap (negsuc a) (negsuc b) h = (
  a - b,
  ring2 (pos (suc b)) (pos (a - b)) (λ x y. neg x ⊜ neg (x ⊕ y) ⊕ y) tt
      ∙ ap (λ (n : ℕ). neg_ℤ (pos n) +ℤ pos (a - b)) {x = suc b + (a - b)} {y = suc a} (omega (arith, leb→le)),
)

pub difference_nonneg : {a b : ℤ} → a ≤ℤ b → pos 0 ≤ℤ (b -ℤ a)
difference_nonneg {a} {b} h =
    let g = gap a b h.le in
    subst (λ (z : ℤ). pos 0 ≤ℤ z) (ring2 a (pos g.0) (λ a n. n ⊜ (a ⊕ n) ⊖ a) tt ∙ ap (λ (z : ℤ). z -ℤ a) (sym g.1)) (pos-≤ zero-le)

pub ≤-of-sum : {a b s : ℤ} → pos 0 ≤ℤ s → b ≡ a +ℤ s → a ≤ℤ b
≤-of-sum {a} {b} {s} h e = subst (λ (z : ℤ). a ≤ℤ z) (ap (λ (z : ℤ). a +ℤ z) (pos-nat_abs s (yes_non_neg h)) ∙ sym e) (≤-plus a (nat_abs s))

-- sums, products and squares that are at least 0
nonneg_add' : (a b : ℤ) → T (le_z (pos 0) a) → T (le_z (pos 0) b) → T (le_z (pos 0) (a +ℤ b))
nonneg_add' (pos a) (pos b) h k = le→leb 0 (a + b) zero-le
nonneg_add' (pos a) (negsuc b) h k = absurd k
nonneg_add' (negsuc a) b h k = absurd h

pub nonneg_add : {a b : ℤ} → pos 0 ≤ℤ a → pos 0 ≤ℤ b → pos 0 ≤ℤ (a +ℤ b)
nonneg_add {a} {b} h k = record { le = nonneg_add' a b h.le k.le }

nonneg_mul' : (a b : ℤ) → T (le_z (pos 0) a) → T (le_z (pos 0) b) → T (le_z (pos 0) (a *ℤ b))
nonneg_mul' (pos a) (pos b) h k = le→leb 0 (a * b) zero-le
nonneg_mul' (pos a) (negsuc b) h k = absurd k
nonneg_mul' (negsuc a) b h k = absurd h

pub nonneg_mul : {a b : ℤ} → pos 0 ≤ℤ a → pos 0 ≤ℤ b → pos 0 ≤ℤ (a *ℤ b)
nonneg_mul {a} {b} h k = record { le = nonneg_mul' a b h.le k.le }

square_nonneg' : (a : ℤ) → T (le_z (pos 0) (a *ℤ a))
square_nonneg' (pos a) = le→leb 0 (a * a) zero-le
square_nonneg' (negsuc a) = le→leb 0 (suc a * suc a) zero-le

pub square_nonneg : (a : ℤ) → pos 0 ≤ℤ (a *ℤ a)
square_nonneg a = record { le = square_nonneg' a }
