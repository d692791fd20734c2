-- The laws of ℤ as a commutative ring that the library leaves out.
use mathlib.Core.Path.{◌≡◌, refl, sym, ◌∙◌, ap, ap₂}
use Prim.Native.Nat as Nat
use Prim.Native.Nat.{ℕ, zero, suc, ◌+◌, ◌*◌}
use native.Mathlib.Nat as NatL
use lib.IntN.{ℤ, pos, negsuc, neg_ℤ, suc_ℤ, pred_ℤ, one, ◌+ℤ◌, ◌-ℤ◌, ◌*ℤ◌, +ℤ_assoc, +ℤ_comm, +ℤ_idl, +ℤ_idr, +ℤ_invr, +ℤ_invl, neg_ℤ-neg_ℤ, neg_ℤ-+ℤ, zero-*ℤ, *ℤ-zero, *ℤ_comm, suc_ℤ-*ℤ, pred_ℤ-*ℤ, *ℤ-one, *ℤ-negsuc}

pub +ℤ-left-comm : (a b c : ℤ) → a +ℤ (b +ℤ c) ≡ b +ℤ (a +ℤ c)
+ℤ-left-comm a b c = sym (+ℤ_assoc a b c) ∙ ap (λ (x : ℤ). x +ℤ c) (+ℤ_comm a b) ∙ +ℤ_assoc b a c

pub +ℤ-swap : (a b c d : ℤ) → (a +ℤ b) +ℤ (c +ℤ d) ≡ (a +ℤ c) +ℤ (b +ℤ d)
+ℤ-swap a b c d = +ℤ_assoc a b (c +ℤ d) ∙ ap (λ (x : ℤ). a +ℤ x) (+ℤ-left-comm b c d) ∙ sym (+ℤ_assoc a c (b +ℤ d))

-- a negation moves out of either factor
pub *ℤ-neg-r : (a b : ℤ) → a *ℤ neg_ℤ b ≡ neg_ℤ (a *ℤ b)
*ℤ-neg-r a (pos zero) = *ℤ-zero a ∙ sym (ap neg_ℤ (*ℤ-zero a))
*ℤ-neg-r a (pos (suc n)) = *ℤ-negsuc a n
*ℤ-neg-r a (negsuc n) = sym (ap neg_ℤ (*ℤ-negsuc a n) ∙ neg_ℤ-neg_ℤ (a *ℤ pos (suc n)))

pub *ℤ-neg-l : (a b : ℤ) → neg_ℤ a *ℤ b ≡ neg_ℤ (a *ℤ b)
*ℤ-neg-l a b = *ℤ_comm (neg_ℤ a) b ∙ *ℤ-neg-r b a ∙ ap neg_ℤ (*ℤ_comm b a)

pub *ℤ-assoc : (a b c : ℤ) → (a *ℤ b) *ℤ c ≡ a *ℤ (b *ℤ c)
*ℤ-assoc (pos a) (pos b) (pos c) = ap pos (NatL.mul_assoc a b c)
*ℤ-assoc (pos a) (pos b) (negsuc c) = *ℤ-neg-r (pos (a * b)) (pos (suc c)) ∙ ap (λ (n : ℕ). neg_ℤ (pos n)) (NatL.mul_assoc a b (suc c)) ∙ sym (*ℤ-neg-r (pos a) (pos (b * suc c)))
*ℤ-assoc (pos a) (negsuc b) (pos c) = *ℤ-neg-l (pos (a * suc b)) (pos c) ∙ ap (λ (n : ℕ). neg_ℤ (pos n)) (NatL.mul_assoc a (suc b) c) ∙ sym (*ℤ-neg-r (pos a) (pos (suc b * c)))
*ℤ-assoc (pos a) (negsuc b) (negsuc c) = *ℤ-neg-l (pos (a * suc b)) (negsuc c) ∙ ap neg_ℤ (*ℤ-neg-r (pos (a * suc b)) (pos (suc c))) ∙ neg_ℤ-neg_ℤ _ ∙ ap pos (NatL.mul_assoc a (suc b) (suc c))
*ℤ-assoc (negsuc a) (pos b) (pos c) = *ℤ-neg-l (pos (suc a * b)) (pos c) ∙ ap (λ (n : ℕ). neg_ℤ (pos n)) (NatL.mul_assoc (suc a) b c)
*ℤ-assoc (negsuc a) (pos b) (negsuc c) = *ℤ-neg-l (pos (suc a * b)) (negsuc c) ∙ ap neg_ℤ (*ℤ-neg-r (pos (suc a * b)) (pos (suc c))) ∙ neg_ℤ-neg_ℤ _ ∙ ap pos (NatL.mul_assoc (suc a) b (suc c)) ∙ sym (*ℤ-neg-r (negsuc a) (pos (b * suc c)) ∙ ap neg_ℤ (*ℤ-neg-l (pos (suc a)) (pos (b * suc c))) ∙ neg_ℤ-neg_ℤ _)
*ℤ-assoc (negsuc a) (negsuc b) (pos c) = ap pos (NatL.mul_assoc (suc a) (suc b) c) ∙ sym (*ℤ-neg-r (negsuc a) (pos (suc b * c)) ∙ ap neg_ℤ (*ℤ-neg-l (pos (suc a)) (pos (suc b * c))) ∙ neg_ℤ-neg_ℤ _)
*ℤ-assoc (negsuc a) (negsuc b) (negsuc c) = *ℤ-neg-r (pos (suc a * suc b)) (pos (suc c)) ∙ ap (λ (n : ℕ). neg_ℤ (pos n)) (NatL.mul_assoc (suc a) (suc b) (suc c))

pub *ℤ-one-l : (a : ℤ) → pos 1 *ℤ a ≡ a
unfolding one
*ℤ-one-l a = *ℤ_comm (pos 1) a ∙ *ℤ-one a

-- the product distributes
distr_suc : (m b c : ℤ) → m *ℤ (b +ℤ c) ≡ m *ℤ b +ℤ m *ℤ c → suc_ℤ m *ℤ (b +ℤ c) ≡ suc_ℤ m *ℤ b +ℤ suc_ℤ m *ℤ c
distr_suc m b c h =
    suc_ℤ-*ℤ m (b +ℤ c) ∙ ap (λ (x : ℤ). x +ℤ (b +ℤ c)) h ∙ +ℤ-swap (m *ℤ b) (m *ℤ c) b c
    ∙ sym (ap₂ (λ (x y : ℤ). x +ℤ y) (suc_ℤ-*ℤ m b) (suc_ℤ-*ℤ m c))

distr_pred : (m b c : ℤ) → m *ℤ (b +ℤ c) ≡ m *ℤ b +ℤ m *ℤ c → pred_ℤ m *ℤ (b +ℤ c) ≡ pred_ℤ m *ℤ b +ℤ pred_ℤ m *ℤ c
distr_pred m b c h =
    pred_ℤ-*ℤ m (b +ℤ c) ∙ ap₂ (λ (x y : ℤ). x +ℤ y) h (neg_ℤ-+ℤ b c) ∙ +ℤ-swap (m *ℤ b) (m *ℤ c) (neg_ℤ b) (neg_ℤ c)
    ∙ sym (ap₂ (λ (x y : ℤ). x +ℤ y) (pred_ℤ-*ℤ m b) (pred_ℤ-*ℤ m c))

pub *ℤ-distr-l : (a b c : ℤ) → a *ℤ (b +ℤ c) ≡ a *ℤ b +ℤ a *ℤ c
*ℤ-distr-l (pos zero) b c = zero-*ℤ (b +ℤ c) ∙ sym (ap₂ (λ (x y : ℤ). x +ℤ y) (zero-*ℤ b) (zero-*ℤ c))
*ℤ-distr-l (pos (suc n)) b c = distr_suc (pos n) b c (*ℤ-distr-l (pos n) b c)
*ℤ-distr-l (negsuc zero) b c = distr_pred (pos zero) b c (zero-*ℤ (b +ℤ c) ∙ sym (ap₂ (λ (x y : ℤ). x +ℤ y) (zero-*ℤ b) (zero-*ℤ c)))
*ℤ-distr-l (negsuc (suc n)) b c = distr_pred (negsuc n) b c (*ℤ-distr-l (negsuc n) b c)

pub *ℤ-distr-r : (a b c : ℤ) → (a +ℤ b) *ℤ c ≡ a *ℤ c +ℤ b *ℤ c
*ℤ-distr-r a b c = *ℤ_comm (a +ℤ b) c ∙ *ℤ-distr-l c a b ∙ ap₂ (λ (x y : ℤ). x +ℤ y) (*ℤ_comm c a) (*ℤ_comm c b)

pub *ℤ-left-comm : (a b c : ℤ) → a *ℤ (b *ℤ c) ≡ b *ℤ (a *ℤ c)
*ℤ-left-comm a b c = sym (*ℤ-assoc a b c) ∙ ap (λ (x : ℤ). x *ℤ c) (*ℤ_comm a b) ∙ *ℤ-assoc b a c
