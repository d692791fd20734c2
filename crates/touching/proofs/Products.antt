-- Products that are 0, and parts of products.
use mathlib.Core.Path.{◌≡◌, subst}
use mathlib.Core.List.{List, [], ◌∷◌}
use mathlib.Core.Logic.{◌⊎◌, inl, inr, ⊎_elim}
use lib.IntN.{ℤ, pos, ◌*ℤ◌}
use lib.Signed.{◌≤ℤ◌, ≤ℤ_refl}
use Rattle.exact.proofs.Polynomial.{◌⊗◌, neg, lit, var}
use Rattle.exact.proofs.Order.{≤ℤ-antisym, total}
use Rattle.exact.proofs.Certificate.{◌⊞◌, ◌⊠◌, sq, hyp, eqn, le, ≤-of-squares, ≥-of-squares}
use Rattle.touching.specs.Touch.{Part}

pub square_zero : (x : ℤ) → (x *ℤ x) ≤ℤ pos 0 → x ≡ pos 0
square_zero x h = ≤ℤ-antisym (≤-of-squares x (pos 0) (≤ℤ_refl (pos 0)) h) (≥-of-squares x (pos 0) (≤ℤ_refl (pos 0)) h)

-- x² ≤ 0, or else y² ≤ x²y² = 0
pub zero_product : (x y : ℤ) → x *ℤ y ≡ pos 0 → (x ≡ pos 0) ⊎ (y ≡ pos 0)
zero_product x y e =
    ⊎_elim (λ h. inl (square_zero x h))
    (λ h. inr (square_zero y (le {ρ = x ∷ y ∷ []} (var 1 ⊗ var 1) (lit 0) (hyp (lit 1) (var 0 ⊗ var 0) h ⊠ sq (var 1) ⊞ eqn (var 0 ⊗ var 1) (lit 0) (var 0 ⊗ var 1) e) tt)))
    (total (x *ℤ x) (pos 0))

pub cancel : (k x : ℤ) → pos 1 ≤ℤ k → k *ℤ x ≡ pos 0 → x ≡ pos 0
cancel k x h e = ⊎_elim (λ z. absurd (subst (λ (w : ℤ). pos 1 ≤ℤ w) z h).le) (λ z. z) (zero_product k x e)

pub part_times : {p n m k : ℤ} → pos 1 ≤ℤ m → k ≡ n *ℤ m → Part p n → Part (p *ℤ m) k
part_times {p} {n} {m} {k} h e i =
    let ρ : List ℤ = p ∷ n ∷ m ∷ k ∷ [] in
    let M = hyp {ρ = ρ} (lit 1) (var 2) h in
    let P = hyp {ρ = ρ} (lit 0) (var 0) i.least in
    let Q = hyp {ρ = ρ} (var 0) (var 1) i.most in
    record {
      least = le {ρ = ρ} (lit 0) (var 0 ⊗ var 2) (P ⊠ M ⊞ P) tt;
      most = le {ρ = ρ} (var 0 ⊗ var 2) (var 3) (Q ⊠ M ⊞ Q ⊞ eqn (var 3) (var 1 ⊗ var 2) (neg (lit 1)) e) tt;
    }
