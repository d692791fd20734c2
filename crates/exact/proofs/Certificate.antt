-- Inequalities by certificate: e ≤ f where f − e is, as a polynomial, a sum of products of things that are at least 0.
use mathlib.Core.Path.{◌≡◌, sym, ◌∙◌, ap, subst}
use mathlib.Core.List.{List, [], ◌∷◌}
use Prim.Native.Nat.{ℕ, zero-le}
use lib.Dec.{T}
use lib.IntN.{ℤ, pos, negsuc, neg_ℤ, ◌+ℤ◌, ◌-ℤ◌, ◌*ℤ◌}
use lib.Signed.{◌≤ℤ◌, le_z}
use Rattle.exact.proofs.Polynomial.{Expr, ◌⊕◌, ◌⊖◌, ◌⊗◌, neg, con, lit, var, eval, ◌⊜◌, ring, ring2, SamePoly}
use Rattle.exact.proofs.Order.{by_contradiction, difference_nonneg, ≤-of-sum, nonneg_add, nonneg_mul, square_nonneg, pos-≤}

-- e is at least 0 where the variables have the values ρ
pub record NonNeg (ρ : List ℤ) (e : Expr) : Type 0 where
  pub nonneg : pos 0 ≤ℤ eval e ρ

module _ {ρ : List ℤ} where
  infixl 6 ◌⊞◌
  infixl 7 ◌⊠◌ ◌·◌
  pub ◌⊞◌ : {e f : Expr} → NonNeg ρ e → NonNeg ρ f → NonNeg ρ (e ⊕ f)
  p ⊞ q = record { nonneg = nonneg_add p.nonneg q.nonneg }

  pub ◌⊠◌ : {e f : Expr} → NonNeg ρ e → NonNeg ρ f → NonNeg ρ (e ⊗ f)
  p ⊠ q = record { nonneg = nonneg_mul p.nonneg q.nonneg }

  pub num : (n : ℕ) → NonNeg ρ (lit n)
  num n = record { nonneg = pos-≤ zero-le }

  -- n times
  pub ◌·◌ : (n : ℕ) {e : Expr} → NonNeg ρ e → NonNeg ρ (lit n ⊗ e)
  n · p = num n ⊠ p

  pub sq : (e : Expr) → NonNeg ρ (e ⊗ e)
  sq e = record { nonneg = square_nonneg (eval e ρ) }

  -- a hypothesis e ≤ f
  pub hyp : (e f : Expr) → eval e ρ ≤ℤ eval f ρ → NonNeg ρ (f ⊖ e)
  hyp e f h = record { nonneg = difference_nonneg h }

  -- an equation e ≡ f, times any g: (f − e)·g is 0
  pub eqn : (e f g : Expr) → eval e ρ ≡ eval f ρ → NonNeg ρ ((f ⊖ e) ⊗ g)
  eqn e f g h = record { nonneg = subst (λ (z : ℤ). pos 0 ≤ℤ z) (zero_of (eval e ρ) (eval f ρ) (eval g ρ) h) (pos-≤ zero-le) }
    where
      zero_of : (x y z : ℤ) → x ≡ y → pos 0 ≡ (y -ℤ x) *ℤ z
      zero_of x y z h = ring2 x z (λ x z. lit 0 ⊜ (x ⊖ x) ⊗ z) tt ∙ ap (λ (w : ℤ). (w -ℤ x) *ℤ z) h

  -- a certificate under a shorter name: the same polynomial, written otherwise
  pub named : (e : Expr) {s : Expr} → NonNeg ρ s → SamePoly e s → NonNeg ρ e
  named e {s} p t = record { nonneg = subst (λ (z : ℤ). pos 0 ≤ℤ z) (sym (ring ρ e s t)) p.nonneg }

  -- e ≤ f, as f = e + s
  pub le : (e f : Expr) {s : Expr} → NonNeg ρ s → SamePoly f (e ⊕ s) → eval e ρ ≤ℤ eval f ρ
  le e f {s} p t = ≤-of-sum p.nonneg (ring ρ f (e ⊕ s) t)

  -- a contradiction: what is at least 0 is not −(n + 1)
  pub never : (n : ℕ) {s : Expr} → NonNeg ρ s → SamePoly s (con (negsuc n)) → ⊥
  never n {s} p t = subst (λ (z : ℤ). T (le_z (pos 0) z)) (ring ρ s (con (negsuc n)) t) p.nonneg.le

-- −y ≤ x ≤ y from x² ≤ y²
pub ≤-of-squares : (x y : ℤ) → pos 0 ≤ℤ y → (x *ℤ x) ≤ℤ (y *ℤ y) → x ≤ℤ y
≤-of-squares x y y0 h = by_contradiction λ g.
    let ρ : List ℤ = x ∷ y ∷ [] in
    let H = hyp {ρ = ρ} (var 0 ⊗ var 0) (var 1 ⊗ var 1) h in
    let G = hyp {ρ = ρ} (var 1 ⊕ lit 1) (var 0) g in
    let N = hyp {ρ = ρ} (lit 0) (var 1) y0 in
    never 0 (H ⊞ 2 · N ⊞ 2 · G ⊞ 2 · (N ⊠ G) ⊞ G ⊠ G) tt

pub ≥-of-squares : (x y : ℤ) → pos 0 ≤ℤ y → (x *ℤ x) ≤ℤ (y *ℤ y) → neg_ℤ y ≤ℤ x
≥-of-squares x y y0 h = by_contradiction λ g.
    let ρ : List ℤ = x ∷ y ∷ [] in
    let H = hyp {ρ = ρ} (var 0 ⊗ var 0) (var 1 ⊗ var 1) h in
    let G = hyp {ρ = ρ} (var 0 ⊕ lit 1) (neg (var 1)) g in
    let N = hyp {ρ = ρ} (lit 0) (var 1) y0 in
    never 0 (H ⊞ 2 · N ⊞ 2 · G ⊞ 2 · (N ⊠ G) ⊞ G ⊠ G) tt

-- a product of positive numbers is positive, and a positive factor cancels
pub positive_mul : {p q : ℤ} → pos 1 ≤ℤ p → pos 1 ≤ℤ q → pos 1 ≤ℤ (p *ℤ q)
positive_mul {p} {q} h k =
    let P = hyp {ρ = p ∷ q ∷ []} (lit 1) (var 0) h in
    let Q = hyp {ρ = p ∷ q ∷ []} (lit 1) (var 1) k in
    le (lit 1) (var 0 ⊗ var 1) (P ⊠ Q ⊞ P ⊞ Q) tt

pub nonneg_cancel : (p z : ℤ) → pos 1 ≤ℤ p → pos 0 ≤ℤ (p *ℤ z) → pos 0 ≤ℤ z
nonneg_cancel p z h k = by_contradiction λ g.
    let ρ : List ℤ = p ∷ z ∷ [] in
    let A = hyp {ρ = ρ} (lit 1) (var 0) h in
    let B = hyp {ρ = ρ} (lit 0) (var 0 ⊗ var 1) k in
    let G = hyp {ρ = ρ} (var 1 ⊕ lit 1) (lit 0) g in
    never 0 (B ⊞ (A ⊞ num 1) ⊠ G ⊞ A) tt

-- e ≤ f, as  p·(f − e) = s  with p at least 1: for what was multiplied by a denominator
pub le_scaled : {ρ : List ℤ} (p e f : Expr) {s : Expr} → pos 1 ≤ℤ eval p ρ → NonNeg ρ s → SamePoly (p ⊗ (f ⊖ e)) s → eval e ρ ≤ℤ eval f ρ
le_scaled {ρ} p e f {s} h n t =
    ≤-of-sum (nonneg_cancel (eval p ρ) (eval f ρ -ℤ eval e ρ) h (named (p ⊗ (f ⊖ e)) n t).nonneg) (ring2 (eval e ρ) (eval f ρ) (λ a b. b ⊜ a ⊕ (b ⊖ a)) tt)
