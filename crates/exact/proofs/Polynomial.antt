-- Identities of polynomials over ℤ by computation: `ring ρ e f tt` proves  eval e ρ ≡ eval f ρ  where the normal form of e − f is zero.
use mathlib.Core.Path.{◌≡◌, refl, sym, ◌∙◌, ap, ap₂}
use mathlib.Core.List.{List, [], ◌∷◌}
use mathlib.Core.Bool.{Bool, true, false, ◌&&◌}
use Prim.Native.Nat.{ℕ, zero, suc}
use lib.Dec.{T}
use lib.IntN.{ℤ, pos, negsuc, neg_ℤ, ◌+ℤ◌, ◌-ℤ◌, ◌*ℤ◌, +ℤ_assoc, +ℤ_comm, +ℤ_idl, +ℤ_idr, +ℤ_invr, +ℤ_invl, zero-*ℤ, *ℤ-zero, *ℤ_comm, *ℤ-one}
use Rattle.exact.proofs.Ring.{+ℤ-left-comm, +ℤ-swap, *ℤ-neg-r, *ℤ-neg-l, *ℤ-assoc, *ℤ-one-l, *ℤ-distr-l, *ℤ-distr-r, *ℤ-left-comm}

infixl 6 ◌⊕◌ ◌⊖◌
infixl 7 ◌⊗◌
pub data Expr : Type 0 where
  var : ℕ → Expr
  con : ℤ → Expr
  ◌⊕◌ ◌⊖◌ ◌⊗◌ : Expr → Expr → Expr
  neg : Expr → Expr

-- the literal n
abbrev pub lit : ℕ → Expr
lit n = con (pos n)

abbrev pub head : List ℤ → ℤ
head [] = pos 0
head (x ∷ xs) = x

abbrev pub tail : List ℤ → List ℤ
tail [] = []
tail (x ∷ xs) = xs

abbrev pub lookup : ℕ → List ℤ → ℤ
lookup zero ρ = head ρ
lookup (suc n) ρ = lookup n (tail ρ)

abbrev pub eval : Expr → List ℤ → ℤ
eval (var n) ρ = lookup n ρ
eval (con z) ρ = z
eval (e ⊕ f) ρ = eval e ρ +ℤ eval f ρ
eval (e ⊖ f) ρ = eval e ρ -ℤ eval f ρ
eval (e ⊗ f) ρ = eval e ρ *ℤ eval f ρ
eval (neg e) ρ = neg_ℤ (eval e ρ)

-- a normal form: a constant, or  p + x·q  where x is the first variable and p is over the later ones
pub data Poly : Type 0 where
  constant : ℤ → Poly
  horner : Poly → Poly → Poly

abbrev value : Poly → List ℤ → ℤ
value (constant z) ρ = z
value (horner p q) ρ = value p (tail ρ) +ℤ head ρ *ℤ value q ρ

abbrev pub add_constant : ℤ → Poly → Poly
add_constant a (constant b) = constant (a +ℤ b)
add_constant a (horner p q) = horner (add_constant a p) q

-- a + x·q and p + x·q, with no tail that is zero
abbrev pub above_constant : ℤ → Poly → Poly
above_constant a (constant (pos zero)) = constant a
above_constant a (constant (pos (suc n))) = horner (constant a) (constant (pos (suc n)))
above_constant a (constant (negsuc n)) = horner (constant a) (constant (negsuc n))
above_constant a (horner r s) = horner (constant a) (horner r s)

abbrev pub above : Poly → Poly → Poly
above (constant a) q = above_constant a q
above (horner p r) q = horner (horner p r) q

abbrev pub add : Poly → Poly → Poly
add (constant a) r = add_constant a r
add (horner p q) (constant b) = horner (add_constant b p) q
add (horner p q) (horner r s) = above (add p r) (add q s)

abbrev pub times : ℤ → Poly → Poly
times a (constant b) = constant (a *ℤ b)
times a (horner p q) = horner (times a p) (times a q)

abbrev pub scale : ℤ → Poly → Poly
scale (pos zero) p = constant (pos zero)
scale (pos (suc n)) p = times (pos (suc n)) p
scale (negsuc n) p = times (negsuc n) p

-- the product by a polynomial over the later variables alone, given as f
abbrev pub later : (Poly → Poly) → Poly → Poly
later f (constant (pos zero)) = constant (pos zero)
later f (constant (pos (suc n))) = horner (f (constant (pos (suc n)))) (constant (pos 0))
later f (constant (negsuc n)) = horner (f (constant (negsuc n))) (constant (pos 0))
later f (horner r s) = horner (f r) (later f s)

abbrev pub mul : Poly → Poly → Poly
mul (constant a) r = scale a r
mul (horner p q) (constant a) = scale a (horner p q)
mul (horner p q) (horner r s) = add (later (mul p) (horner r s)) (above_constant (pos 0) (mul q (horner r s)))

abbrev pub variable : ℕ → Poly
variable zero = horner (constant (pos 0)) (constant (pos 1))
variable (suc n) = horner (variable n) (constant (pos 0))

abbrev pub normal : Expr → Poly
normal (var n) = variable n
normal (con z) = constant z
normal (e ⊕ f) = add (normal e) (normal f)
normal (e ⊖ f) = add (normal e) (scale (negsuc 0) (normal f))
normal (e ⊗ f) = mul (normal e) (normal f)
normal (neg e) = scale (negsuc 0) (normal e)

abbrev pub is_nought : ℤ → Bool
is_nought (pos zero) = true
is_nought (pos (suc n)) = false
is_nought (negsuc n) = false

abbrev pub is_zero : Poly → Bool
is_zero (constant z) = is_nought z
is_zero (horner p q) = is_zero p && is_zero q

-- The operations on normal forms are those on values.
value_add_constant : (a : ℤ) (p : Poly) (ρ : List ℤ) → value (add_constant a p) ρ ≡ a +ℤ value p ρ
value_add_constant a (constant b) ρ = refl
value_add_constant a (horner p q) ρ = ap (λ (x : ℤ). x +ℤ head ρ *ℤ value q ρ) (value_add_constant a p (tail ρ)) ∙ +ℤ_assoc a (value p (tail ρ)) (head ρ *ℤ value q ρ)

value_above_constant : (a : ℤ) (q : Poly) (ρ : List ℤ) → value (above_constant a q) ρ ≡ a +ℤ head ρ *ℤ value q ρ
value_above_constant a (constant (pos zero)) ρ = sym (ap (λ (x : ℤ). a +ℤ x) (*ℤ-zero (head ρ)) ∙ +ℤ_idr a)
value_above_constant a (constant (pos (suc n))) ρ = refl
value_above_constant a (constant (negsuc n)) ρ = refl
value_above_constant a (horner r s) ρ = refl

value_above : (p q : Poly) (ρ : List ℤ) → value (above p q) ρ ≡ value p (tail ρ) +ℤ head ρ *ℤ value q ρ
value_above (constant a) q ρ = value_above_constant a q ρ
value_above (horner p r) q ρ = refl

value_add : (p q : Poly) (ρ : List ℤ) → value (add p q) ρ ≡ value p ρ +ℤ value q ρ
value_add (constant a) r ρ = value_add_constant a r ρ
value_add (horner p q) (constant b) ρ =
    ap (λ (x : ℤ). x +ℤ head ρ *ℤ value q ρ) (value_add_constant b p (tail ρ)) ∙ +ℤ_assoc b (value p (tail ρ)) (head ρ *ℤ value q ρ) ∙ +ℤ_comm b _
value_add (horner p q) (horner r s) ρ =
    value_above (add p r) (add q s) ρ
    ∙ ap₂ (λ (x y : ℤ). x +ℤ head ρ *ℤ y) (value_add p r (tail ρ)) (value_add q s ρ)
    ∙ ap (λ (x : ℤ). (value p (tail ρ) +ℤ value r (tail ρ)) +ℤ x) (*ℤ-distr-l (head ρ) (value q ρ) (value s ρ))
    ∙ +ℤ-swap (value p (tail ρ)) (value r (tail ρ)) (head ρ *ℤ value q ρ) (head ρ *ℤ value s ρ)

value_times : (a : ℤ) (p : Poly) (ρ : List ℤ) → value (times a p) ρ ≡ a *ℤ value p ρ
value_times a (constant b) ρ = refl
value_times a (horner p q) ρ =
    ap₂ (λ (x y : ℤ). x +ℤ head ρ *ℤ y) (value_times a p (tail ρ)) (value_times a q ρ)
    ∙ ap (λ (x : ℤ). a *ℤ value p (tail ρ) +ℤ x) (*ℤ-left-comm (head ρ) a (value q ρ))
    ∙ sym (*ℤ-distr-l a (value p (tail ρ)) (head ρ *ℤ value q ρ))

value_scale : (a : ℤ) (p : Poly) (ρ : List ℤ) → value (scale a p) ρ ≡ a *ℤ value p ρ
value_scale (pos zero) p ρ = sym (zero-*ℤ (value p ρ))
value_scale (pos (suc n)) p ρ = value_times (pos (suc n)) p ρ
value_scale (negsuc n) p ρ = value_times (negsuc n) p ρ

value_later : (f : Poly → Poly) (p : Poly) → ((r : Poly) (ρ : List ℤ) → value (f r) ρ ≡ value p ρ *ℤ value r ρ) → (r : Poly) (ρ : List ℤ) → value (later f r) ρ ≡ value p (tail ρ) *ℤ value r ρ
value_later f p k (constant (pos zero)) ρ = sym (*ℤ-zero (value p (tail ρ)))
value_later f p k (constant (pos (suc n))) ρ = ap₂ (λ (x y : ℤ). x +ℤ y) (k (constant (pos (suc n))) (tail ρ)) (*ℤ-zero (head ρ)) ∙ +ℤ_idr _
value_later f p k (constant (negsuc n)) ρ = ap₂ (λ (x y : ℤ). x +ℤ y) (k (constant (negsuc n)) (tail ρ)) (*ℤ-zero (head ρ)) ∙ +ℤ_idr _
value_later f p k (horner r s) ρ =
    ap₂ (λ (x y : ℤ). x +ℤ head ρ *ℤ y) (k r (tail ρ)) (value_later f p k s ρ)
    ∙ ap (λ (x : ℤ). value p (tail ρ) *ℤ value r (tail ρ) +ℤ x) (*ℤ-left-comm (head ρ) (value p (tail ρ)) (value s ρ))
    ∙ sym (*ℤ-distr-l (value p (tail ρ)) (value r (tail ρ)) (head ρ *ℤ value s ρ))

value_mul : (p q : Poly) (ρ : List ℤ) → value (mul p q) ρ ≡ value p ρ *ℤ value q ρ
value_mul (constant a) r ρ = value_scale a r ρ
value_mul (horner p q) (constant a) ρ = value_scale a (horner p q) ρ ∙ *ℤ_comm a (value (horner p q) ρ)
value_mul (horner p q) (horner r s) ρ =
    value_add (later (mul p) (horner r s)) (above_constant (pos 0) (mul q (horner r s))) ρ
    ∙ ap₂ (λ (x y : ℤ). x +ℤ y) (value_later (mul p) p (value_mul p) (horner r s) ρ) (value_above_constant (pos 0) (mul q (horner r s)) ρ ∙ +ℤ_idl (head ρ *ℤ value (mul q (horner r s)) ρ) ∙ ap (λ (x : ℤ). head ρ *ℤ x) (value_mul q (horner r s) ρ) ∙ sym (*ℤ-assoc (head ρ) (value q ρ) (value (horner r s) ρ)))
    ∙ sym (*ℤ-distr-r (value p (tail ρ)) (head ρ *ℤ value q ρ) (value (horner r s) ρ))

value_variable : (n : ℕ) (ρ : List ℤ) → value (variable n) ρ ≡ lookup n ρ
value_variable zero ρ = +ℤ_idl (head ρ *ℤ pos 1) ∙ *ℤ_comm (head ρ) (pos 1) ∙ *ℤ-one-l (head ρ)
value_variable (suc n) ρ = ap₂ (λ (x y : ℤ). x +ℤ y) (value_variable n (tail ρ)) (*ℤ-zero (head ρ)) ∙ +ℤ_idr _

minus_one_times : (a : ℤ) → negsuc 0 *ℤ a ≡ neg_ℤ a
minus_one_times a = *ℤ-neg-l (pos 1) a ∙ ap neg_ℤ (*ℤ-one-l a)

sound : (e : Expr) (ρ : List ℤ) → value (normal e) ρ ≡ eval e ρ
sound (var n) ρ = value_variable n ρ
sound (con z) ρ = refl
sound (e ⊕ f) ρ = value_add (normal e) (normal f) ρ ∙ ap₂ (λ (x y : ℤ). x +ℤ y) (sound e ρ) (sound f ρ)
sound (e ⊖ f) ρ =
    value_add (normal e) (scale (negsuc 0) (normal f)) ρ
    ∙ ap₂ (λ (x y : ℤ). x +ℤ y) (sound e ρ) (value_scale (negsuc 0) (normal f) ρ ∙ minus_one_times (value (normal f) ρ) ∙ ap neg_ℤ (sound f ρ))
sound (e ⊗ f) ρ = value_mul (normal e) (normal f) ρ ∙ ap₂ (λ (x y : ℤ). x *ℤ y) (sound e ρ) (sound f ρ)
sound (neg e) ρ = value_scale (negsuc 0) (normal e) ρ ∙ minus_one_times (value (normal e) ρ) ∙ ap neg_ℤ (sound e ρ)

is_nought_zero : (z : ℤ) → T (is_nought z) → z ≡ pos 0
is_nought_zero (pos zero) t = refl
is_nought_zero (pos (suc n)) t = absurd t
is_nought_zero (negsuc n) t = absurd t

pub and_left : (a b : Bool) → T (a && b) → T a
and_left true b t = tt
and_left false b t = absurd t

pub and_right : (a b : Bool) → T (a && b) → T b
and_right true b t = t
and_right false b t = absurd t

is_zero_zero : (p : Poly) (ρ : List ℤ) → T (is_zero p) → value p ρ ≡ pos 0
is_zero_zero (constant z) ρ t = is_nought_zero z t
is_zero_zero (horner p q) ρ t =
    ap₂ (λ (x y : ℤ). x +ℤ head ρ *ℤ y) (is_zero_zero p (tail ρ) (and_left (is_zero p) (is_zero q) t)) (is_zero_zero q ρ (and_right (is_zero p) (is_zero q) t))
    ∙ +ℤ_idl _ ∙ *ℤ-zero (head ρ)

pub equal_of_difference : (a b : ℤ) → a -ℤ b ≡ pos 0 → a ≡ b
equal_of_difference a b e = sym (+ℤ_assoc a (neg_ℤ b) b ∙ ap (λ (x : ℤ). a +ℤ x) (+ℤ_invl b) ∙ +ℤ_idr a) ∙ ap (λ (x : ℤ). x +ℤ b) e ∙ +ℤ_idl b

-- e and f are one polynomial
abbrev pub SamePoly : Expr → Expr → Type 0
SamePoly e f = T (is_zero (normal (e ⊖ f)))

pub ring : (ρ : List ℤ) (e f : Expr) → SamePoly e f → eval e ρ ≡ eval f ρ
ring ρ e f t = equal_of_difference (eval e ρ) (eval f ρ) (sym (sound (e ⊖ f) ρ) ∙ is_zero_zero (normal (e ⊖ f)) ρ t)

-- the SamePoly with the variables named: ring2 a b (λ a b. .. ⊜ ..) tt
infix 4 ◌⊜◌
pub data Eqn : Type 0 where
  ◌⊜◌ : Expr → Expr → Eqn

abbrev pub Holds : Eqn → List ℤ → Type 0
Holds (e ⊜ f) ρ = eval e ρ ≡ eval f ρ

abbrev pub Same : Eqn → Type 0
Same (e ⊜ f) = SamePoly e f

pub solve : (ρ : List ℤ) (q : Eqn) → Same q → Holds q ρ
solve ρ (e ⊜ f) t = ring ρ e f t

pub ring1 : (a : ℤ) (q : Expr → Eqn) → Same (q (var 0)) → Holds (q (var 0)) (a ∷ [])
ring1 a q t = solve _ (q (var 0)) t

pub ring2 : (a b : ℤ) (q : Expr → Expr → Eqn) → Same (q (var 0) (var 1)) → Holds (q (var 0) (var 1)) (a ∷ b ∷ [])
ring2 a b q t = solve _ (q (var 0) (var 1)) t

pub ring3 : (a b c : ℤ) (q : Expr → Expr → Expr → Eqn) → Same (q (var 0) (var 1) (var 2)) → Holds (q (var 0) (var 1) (var 2)) (a ∷ b ∷ c ∷ [])
ring3 a b c q t = solve _ (q (var 0) (var 1) (var 2)) t

pub ring4 : (a b c d : ℤ) (q : Expr → Expr → Expr → Expr → Eqn) → Same (q (var 0) (var 1) (var 2) (var 3)) → Holds (q (var 0) (var 1) (var 2) (var 3)) (a ∷ b ∷ c ∷ d ∷ [])
ring4 a b c d q t = solve _ (q (var 0) (var 1) (var 2) (var 3)) t
