-- Equations of ℤ modulo others: e ≡ f where e − f is, as a polynomial, a sum of multiples of things that are 0.
use mathlib.Core.Path.{◌≡◌, ◌∙◌, ap, ap₂}
use mathlib.Core.List.{List}
use lib.IntN.{ℤ, pos, ◌+ℤ◌, ◌-ℤ◌, ◌*ℤ◌, +ℤ_idr}
use Rattle.exact.proofs.Polynomial.{Expr, ◌⊕◌, ◌⊖◌, ◌⊗◌, ◌⊜◌, lit, eval, ring, ring2, SamePoly}

-- e is 0 where the variables have the values ρ
pub record Zero (ρ : List ℤ) (e : Expr) : Type 0 where
  pub zero : eval e ρ ≡ pos 0

module _ {ρ : List ℤ} where
  infixl 6 ◌⊹◌
  pub ◌⊹◌ : {e f : Expr} → Zero ρ e → Zero ρ f → Zero ρ (e ⊕ f)
  p ⊹ q = record { zero = ap₂ (λ (x y : ℤ). x +ℤ y) p.zero q.zero }

  -- an equation e ≡ f, times any g
  pub multiple : (e f g : Expr) → eval e ρ ≡ eval f ρ → Zero ρ ((e ⊖ f) ⊗ g)
  multiple e f g h =
      record { zero = ap (λ (x : ℤ). (x -ℤ eval f ρ) *ℤ eval g ρ) h ∙ ring2 (eval f ρ) (eval g ρ) (λ y z. (y ⊖ y) ⊗ z ⊜ lit 0) tt }

  -- e ≡ f, as e = f + s
  pub equal : (e f : Expr) {s : Expr} → Zero ρ s → SamePoly e (f ⊕ s) → eval e ρ ≡ eval f ρ
  equal e f {s} p t = ring ρ e (f ⊕ s) t ∙ ap (λ (x : ℤ). eval f ρ +ℤ x) p.zero ∙ +ℤ_idr (eval f ρ)
