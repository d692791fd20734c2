-- What a machine of 64 bits computes for a polynomial: each operand is read again from its bits.
-- Where, by the sizes of the variables, every number in it is below 2^63, nothing overflows and the machine's result is the polynomial's value.
use mathlib.Core.Path.{◌≡◌, refl, sym, ◌∙◌, ap, ap₂, subst}
use mathlib.Core.List.{List, [], ◌∷◌}
use mathlib.Core.Bool.{Bool, ◌&&◌}
use Prim.Native.Nat.{ℕ, zero, suc, ◌+◌, ◌*◌, ◌^◌, ◌≤◌, ◌<◌}
use native.Mathlib.Nat as NatL
use lib.Dec.{T, ltb, leb, leb→le}
use lib.IntN.{ℤ, pos, negsuc, neg_ℤ, nat_abs, ◌+ℤ◌, ◌-ℤ◌, ◌*ℤ◌}
use lib.Signed.{mag, nat_abs-le}
use mir.Syntax.{w32, w64}
use mir.Val.{SFits, of_z, to_z}
use mir.Facts.{to_z-of_z}
use Rattle.exact.specs.Size.{Within}
use Rattle.exact.proofs.Polynomial.{Expr, var, con, ◌⊕◌, ◌⊖◌, ◌⊗◌, neg, eval, lookup, and_left, and_right}
use Rattle.exact.proofs.Sizes.{within_add, within_sub, within_mul, within_neg, within_more, fits64}

-- z, read again from its bits
abbrev pub reread : ℤ → ℤ
reread z = to_z w64 (of_z w64 z)

pub reread_result : {z w : ℤ} → mag z < 2 ^ 63 → z ≡ w → reread z ≡ w
reread_result ok e = to_z-of_z {w = w64} (record { sfits = ok }) ∙ e

-- the same of 32 bits, and the size of such a number
abbrev pub reread32 : ℤ → ℤ
reread32 z = to_z w32 (of_z w32 z)

pub within32 : {z : ℤ} → SFits w32 z → Within 2147483648 z
within32 {z} f = record { size = nat_abs-le z f.sfits }

-- what the last operation of e leaves
abbrev pub computed : Expr → List ℤ → ℤ
computed (var n) ρ = lookup n ρ
computed (con z) ρ = z
computed (e ⊕ f) ρ = reread (computed e ρ) +ℤ reread (computed f ρ)
computed (e ⊖ f) ρ = reread (computed e ρ) -ℤ reread (computed f ρ)
computed (e ⊗ f) ρ = reread (computed e ρ) *ℤ reread (computed f ρ)
computed (neg e) ρ = neg_ℤ (reread (computed e ρ))

-- the greatest size of e by the bounds of its variables
abbrev pub bound : ℕ → List ℕ → ℕ
bound n [] = 0
bound zero (b ∷ bs) = b
bound (suc n) (b ∷ bs) = bound n bs

abbrev pub size_of : List ℕ → Expr → ℕ
size_of bs (var n) = bound n bs
size_of bs (con z) = nat_abs z
size_of bs (e ⊕ f) = size_of bs e + size_of bs f
size_of bs (e ⊖ f) = size_of bs e + size_of bs f
size_of bs (e ⊗ f) = size_of bs e * size_of bs f
size_of bs (neg e) = size_of bs e

-- every number in e fits: a test that `tt` computes
abbrev pub small : ℕ → Bool
small n = ltb n (2 ^ 63)

abbrev pub all_small : List ℕ → Expr → Bool
all_small bs (var n) = small (bound n bs)
all_small bs (con z) = small (nat_abs z)
all_small bs (e ⊕ f) = (all_small bs e && all_small bs f) && small (size_of bs e + size_of bs f)
all_small bs (e ⊖ f) = (all_small bs e && all_small bs f) && small (size_of bs e + size_of bs f)
all_small bs (e ⊗ f) = (all_small bs e && all_small bs f) && small (size_of bs e * size_of bs f)
all_small bs (neg e) = all_small bs e && small (size_of bs e)

-- the bounds of the variables
infixr 5 ◌∷ᵇ◌
pub data Bounded : List ℕ → List ℤ → Type 0 where
  none : Bounded [] []
  ◌∷ᵇ◌ : {b : ℕ} {z : ℤ} {bs : List ℕ} {ρ : List ℤ} → Within b z → Bounded bs ρ → Bounded (b ∷ bs) (z ∷ ρ)

lookup-[] : (n : ℕ) → lookup n [] ≡ pos 0
lookup-[] zero = refl
lookup-[] (suc n) = lookup-[] n

lookup_within : {bs : List ℕ} {ρ : List ℤ} → Bounded bs ρ → (n : ℕ) → Within (bound n bs) (lookup n ρ)
lookup_within none n = subst (Within 0) (sym (lookup-[] n)) (record { size = NatL.le_refl 0 })
lookup_within (w ∷ᵇ r) zero = w
lookup_within (w ∷ᵇ r) (suc n) = lookup_within r n

module _ {bs : List ℕ} {ρ : List ℤ} (w : Bounded bs ρ) where
  pub within_size_of : (e : Expr) → Within (size_of bs e) (eval e ρ)
  within_size_of (var n) = lookup_within w n
  within_size_of (con z) = record { size = NatL.le_refl (nat_abs z) }
  within_size_of (e ⊕ f) = within_add (within_size_of e) (within_size_of f)
  within_size_of (e ⊖ f) = within_sub (within_size_of e) (within_size_of f)
  within_size_of (e ⊗ f) = within_mul (within_size_of e) (within_size_of f)
  within_size_of (neg e) = within_neg (within_size_of e)

  whole_small : (e : Expr) → T (all_small bs e) → T (small (size_of bs e))
  whole_small (var n) t = t
  whole_small (con z) t = t
  whole_small (e ⊕ f) t = and_right (all_small bs e && all_small bs f) _ t
  whole_small (e ⊖ f) t = and_right (all_small bs e && all_small bs f) _ t
  whole_small (e ⊗ f) t = and_right (all_small bs e && all_small bs f) _ t
  whole_small (neg e) t = and_right (all_small bs e) _ t

  reread_exact : (e : Expr) → T (all_small bs e) → computed e ρ ≡ eval e ρ → reread (computed e ρ) ≡ eval e ρ
  reread_exact e t h = ap reread h ∙ to_z-of_z {w = w64} (fits64 (whole_small e t) (within_size_of e))

  -- two operands that are exact make an exact operation
  operation : (op : ℤ → ℤ → ℤ) (e f : Expr) (b : Bool) → T ((all_small bs e && all_small bs f) && b)
      → (T (all_small bs e) → computed e ρ ≡ eval e ρ) → (T (all_small bs f) → computed f ρ ≡ eval f ρ)
      → op (reread (computed e ρ)) (reread (computed f ρ)) ≡ op (eval e ρ) (eval f ρ)
  operation op e f b t he hf =
      let p = and_left (all_small bs e && all_small bs f) b t in
      let l = and_left (all_small bs e) (all_small bs f) p in
      let r = and_right (all_small bs e) (all_small bs f) p in
      ap₂ op (reread_exact e l (he l)) (reread_exact f r (hf r))

  computed_exact : (e : Expr) → T (all_small bs e) → computed e ρ ≡ eval e ρ
  computed_exact (var n) t = refl
  computed_exact (con z) t = refl
  computed_exact (e ⊕ f) t = operation (λ (x y : ℤ). x +ℤ y) e f _ t (computed_exact e) (computed_exact f)
  computed_exact (e ⊖ f) t = operation (λ (x y : ℤ). x -ℤ y) e f _ t (computed_exact e) (computed_exact f)
  computed_exact (e ⊗ f) t = operation (λ (x y : ℤ). x *ℤ y) e f _ t (computed_exact e) (computed_exact f)
  computed_exact (neg e) t = let l = and_left (all_small bs e) _ t in ap neg_ℤ (reread_exact e l (computed_exact e l))

  -- what an operation asks
  pub fits : (e : Expr) → T (all_small bs e) → SFits w64 (computed e ρ)
  fits e t = subst (SFits w64) (sym (computed_exact e t)) (fits64 (whole_small e t) (within_size_of e))

  -- what the machine holds after it
  pub held : (e : Expr) → T (all_small bs e) → reread (computed e ρ) ≡ eval e ρ
  held e t = reread_exact e t (computed_exact e t)

  -- a fact of the value is one of what the machine holds
  pub via : (P : ℤ → Type 0) (e : Expr) → T (all_small bs e) → P (eval e ρ) → P (reread (computed e ρ))
  via P e t p = subst P (sym (held e t)) p

  -- its size, for a callee that asks one
  pub held_within : {b : ℕ} (e : Expr) → T (all_small bs e) → T (leb (size_of bs e) b) → Within b (reread (computed e ρ))
  held_within {b} e t s = via (Within b) e t (within_more (leb→le (size_of bs e) b s) (within_size_of e))
