-- The bridge to `omega`: a number of ℤ as a difference of two naturals, so that an inequality of ℤ is one of ℕ.
use mathlib.Core.Path.{◌≡◌, refl, sym, ◌∙◌, ap, ap₂, subst₂}
use mathlib.Core.List.{List, [], ◌∷◌}
use Prim.Native.Nat.{ℕ, zero, suc, ◌+◌, ◌*◌, ◌≤◌}
use native.Mathlib.Omega.{arith}
use lib.IntN.{ℤ, pos, negsuc, neg_ℤ, ◌+ℤ◌, ◌-ℤ◌, ◌*ℤ◌}
use lib.Signed.{◌≤ℤ◌}
use Rattle.exact.proofs.Polynomial.{Expr, var, con, ◌⊕◌, ◌⊖◌, ◌⊗◌, neg, lit, eval, lookup, ◌⊜◌, ring1, ring2, ring4}
use Rattle.exact.proofs.Order.{pos-≤, ≤-pos}
use Rattle.exact.proofs.Certificate.{hyp, le}

-- the part above 0 and the part below
unfoldable pub above : ℤ → ℕ
above (pos n) = n
above (negsuc n) = 0

unfoldable pub below : ℤ → ℕ
below (pos n) = 0
below (negsuc n) = suc n

variable_parts : (z : ℤ) → z ≡ pos (above z) -ℤ pos (below z)
unfolding above below
variable_parts (pos n) = ring1 (pos n) (λ n. n ⊜ n ⊖ lit 0) tt
variable_parts (negsuc n) = ring1 (pos (suc n)) (λ n. neg n ⊜ lit 0 ⊖ n) tt

-- a literal's parts, which compute
abbrev pub literal_above : ℤ → ℕ
literal_above (pos n) = n
literal_above (negsuc n) = 0

abbrev pub literal_below : ℤ → ℕ
literal_below (pos n) = 0
literal_below (negsuc n) = suc n

literal_parts : (z : ℤ) → z ≡ pos (literal_above z) -ℤ pos (literal_below z)
literal_parts (pos n) = ring1 (pos n) (λ n. n ⊜ n ⊖ lit 0) tt
literal_parts (negsuc n) = ring1 (pos (suc n)) (λ n. neg n ⊜ lit 0 ⊖ n) tt

abbrev mutual
  pub upper : Expr → List ℤ → ℕ
  upper (var n) ρ = above (lookup n ρ)
  upper (con z) ρ = literal_above z
  upper (e ⊕ f) ρ = upper e ρ + upper f ρ
  upper (e ⊖ f) ρ = upper e ρ + lower f ρ
  upper (e ⊗ f) ρ = upper e ρ * upper f ρ + lower e ρ * lower f ρ
  upper (neg e) ρ = lower e ρ

  pub lower : Expr → List ℤ → ℕ
  lower (var n) ρ = below (lookup n ρ)
  lower (con z) ρ = literal_below z
  lower (e ⊕ f) ρ = lower e ρ + lower f ρ
  lower (e ⊖ f) ρ = lower e ρ + upper f ρ
  lower (e ⊗ f) ρ = upper e ρ * lower f ρ + lower e ρ * upper f ρ
  lower (neg e) ρ = upper e ρ

parts : (e : Expr) (ρ : List ℤ) → eval e ρ ≡ pos (upper e ρ) -ℤ pos (lower e ρ)
parts (var n) ρ = variable_parts (lookup n ρ)
parts (con z) ρ = literal_parts z
parts (e ⊕ f) ρ =
    ap₂ (λ (x y : ℤ). x +ℤ y) (parts e ρ) (parts f ρ)
    ∙ ring4 (pos (upper e ρ)) (pos (lower e ρ)) (pos (upper f ρ)) (pos (lower f ρ)) (λ a b c d. (a ⊖ b) ⊕ (c ⊖ d) ⊜ (a ⊕ c) ⊖ (b ⊕ d)) tt
parts (e ⊖ f) ρ =
    ap₂ (λ (x y : ℤ). x -ℤ y) (parts e ρ) (parts f ρ)
    ∙ ring4 (pos (upper e ρ)) (pos (lower e ρ)) (pos (upper f ρ)) (pos (lower f ρ)) (λ a b c d. (a ⊖ b) ⊖ (c ⊖ d) ⊜ (a ⊕ d) ⊖ (b ⊕ c)) tt
parts (e ⊗ f) ρ =
    ap₂ (λ (x y : ℤ). x *ℤ y) (parts e ρ) (parts f ρ)
    ∙ ring4 (pos (upper e ρ)) (pos (lower e ρ)) (pos (upper f ρ)) (pos (lower f ρ)) (λ a b c d. (a ⊖ b) ⊗ (c ⊖ d) ⊜ (a ⊗ c ⊕ b ⊗ d) ⊖ (a ⊗ d ⊕ b ⊗ c)) tt
parts (neg e) ρ = ap neg_ℤ (parts e ρ) ∙ ring2 (pos (upper e ρ)) (pos (lower e ρ)) (λ a b. neg (a ⊖ b) ⊜ b ⊖ a) tt

module _ (ρ : List ℤ) where
  -- e ≤ f, for omega's list
  pub to_omega : (e f : Expr) → eval e ρ ≤ℤ eval f ρ → upper e ρ + lower f ρ ≤ upper f ρ + lower e ρ
  to_omega e f h =
      ≤-pos (le {ρ = pos (upper e ρ) ∷ pos (lower e ρ) ∷ pos (upper f ρ) ∷ pos (lower f ρ) ∷ []} (var 0 ⊕ var 3) (var 2 ⊕ var 1)
      (hyp (var 0 ⊖ var 1) (var 2 ⊖ var 3) (subst₂ (λ (x y : ℤ). x ≤ℤ y) (parts e ρ) (parts f ρ) h)) tt)

  -- e ≤ f, from omega
  pub from_omega : (e f : Expr) → upper e ρ + lower f ρ ≤ upper f ρ + lower e ρ → eval e ρ ≤ℤ eval f ρ
  from_omega e f h =
      subst₂ (λ (x y : ℤ). x ≤ℤ y) (sym (parts e ρ)) (sym (parts f ρ))
      (le {ρ = pos (upper e ρ) ∷ pos (lower e ρ) ∷ pos (upper f ρ) ∷ pos (lower f ρ) ∷ []} (var 0 ⊖ var 1) (var 2 ⊖ var 3)
      (hyp (var 0 ⊕ var 3) (var 2 ⊕ var 1) (pos-≤ h)) tt)
