-- The smaller and the greater of two numbers, in one law; and numbers that enter a least or a greatest may do so in any order.
use mathlib.Core.Path.{◌≡◌, refl, ◌∙◌, ap₂}
use mathlib.Core.Bool.{Bool, true, false}
use mathlib.Core.List.{[], ◌∷◌}
use mathlib.Core.Logic.{◌⊎◌, inl, inr}
use native.Mathlib.Omega.{arith}
use lib.IntN.{ℤ}
use lib.Signed.{◌≤ℤ◌, le_z, ≤ℤ_refl}
use Rattle.std.specs.Int.{int_min, int_max}
use Rattle.std.proofs.lemmas.Int.{ints, clamps}
use Rattle.exact.proofs.Polynomial.{◌⊕◌, lit, var}
use Rattle.exact.proofs.Order.{le_z_true, le_z_false, ≤ℤ-trans, ≤ℤ-antisym}
use Rattle.exact.proofs.Certificate.{◌⊞◌, num, hyp, le}
use Rattle.number.specs.Read.{pick}
use Rattle.reaches.specs.Crossing.{smaller, greater}

pub not-≤ : (a b : ℤ) → le_z a b ≡ false → b ≤ℤ a
not-≤ a b e = le {ρ = a ∷ b ∷ []} (var 1) (var 0) (hyp (var 1 ⊕ lit 1) (var 0) (le_z_false a b e) ⊞ num 1) tt

-- what the smaller and the greater of a and b are
pub record Sorted (a b least most : ℤ) : Type 0 where
  pub least_first : least ≤ℤ a
  pub least_second : least ≤ℤ b
  pub most_first : a ≤ℤ most
  pub most_second : b ≤ℤ most
  pub either : ((least ≡ a) × (most ≡ b)) ⊎ ((least ≡ b) × (most ≡ a))

pub sorted : (a b : ℤ) → Sorted a b (smaller a b) (greater a b)
sorted a b = by (le_z a b) refl
  where
    by : (t : Bool) → le_z a b ≡ t → Sorted a b (pick t a b) (pick t b a)
    by true e = record { least_first = ≤ℤ_refl a; least_second = le_z_true e; most_first = le_z_true e; most_second = ≤ℤ_refl b; either = inl (refl, refl) }
    by false e = record { least_first = not-≤ a b e; least_second = ≤ℤ_refl b; most_first = ≤ℤ_refl a; most_second = not-≤ a b e; either = inr (refl, refl) }

-- whatever is so of both is so of the one picked
of_both : (P : ℤ → Type 0) (t : Bool) (a b : ℤ) → P a → P b → P (pick t a b)
of_both P true a b p q = p
of_both P false a b p q = q

pub smaller_least : (a b c : ℤ) → c ≤ℤ a → c ≤ℤ b → c ≤ℤ smaller a b
smaller_least a b c = of_both (λ (z : ℤ). c ≤ℤ z) (le_z a b) a b

pub greater_most : (a b c : ℤ) → a ≤ℤ c → b ≤ℤ c → greater a b ≤ℤ c
greater_most a b c p q = of_both (λ (z : ℤ). z ≤ℤ c) (le_z a b) b a q p

-- the order in which numbers enter a bound does not matter, whichever way the order R goes
module _ (R : ℤ → ℤ → Type 0) (op : ℤ → ℤ → ℤ)
    (trans : (a b c : ℤ) → R a b → R b c → R a c) (antisym : (a b : ℤ) → R a b → R b a → a ≡ b)
    (first : (a b : ℤ) → R (op a b) a) (second : (a b : ℤ) → R (op a b) b) (both : (a b c : ℤ) → R c a → R c b → R c (op a b)) where
  one_way : (l a b : ℤ) → R (op (op l a) b) (op (op l b) a)
  one_way l a b =
      let inner = first (op l a) b in
      both (op l b) a _ (both l b _ (trans _ (op l a) l inner (first l a)) (second (op l a) b)) (trans _ (op l a) a inner (second l a))

  any_order : (l a b : ℤ) → op (op l a) b ≡ op (op l b) a
  any_order l a b = antisym _ _ (one_way l a b) (one_way l b a)

pub smaller_any_order : (l a b : ℤ) → smaller (smaller l a) b ≡ smaller (smaller l b) a
smaller_any_order = any_order (λ a b. a ≤ℤ b) smaller (λ a b c h k. ≤ℤ-trans h k) (λ a b h k. ≤ℤ-antisym h k) (λ a b. (sorted a b).least_first) (λ a b. (sorted a b).least_second) smaller_least

pub greater_any_order : (l a b : ℤ) → greater (greater l a) b ≡ greater (greater l b) a
greater_any_order =
    any_order (λ a b. b ≤ℤ a) greater (λ a b c h k. ≤ℤ-trans k h) (λ a b h k. ≤ℤ-antisym k h) (λ a b. (sorted a b).most_first) (λ a b. (sorted a b).most_second)
    (λ a b c p q. greater_most a b c p q)

-- the library's lesser and greater of two
pub least_is : (a b : ℤ) → int_min a b ≡ smaller a b
least_is a b = by (le_z a b) refl
  where
    by : (t : Bool) → le_z a b ≡ t → int_min a b ≡ pick t a b
    by true e = let h : a ≤ℤ b = le_z_true e in omega (arith, ints, clamps)
    by false e = let h : b ≤ℤ a = not-≤ a b e in omega (arith, ints, clamps)

pub most_is : (a b : ℤ) → int_max a b ≡ greater a b
most_is a b = by (le_z a b) refl
  where
    by : (t : Bool) → le_z a b ≡ t → int_max a b ≡ pick t b a
    by true e = let h : a ≤ℤ b = le_z_true e in omega (arith, ints, clamps)
    by false e = let h : b ≤ℤ a = not-≤ a b e in omega (arith, ints, clamps)

-- the same of numbers that are read again
pub lesser_of : {r a b x y : ℤ} → x ≡ a → y ≡ b → r ≡ int_min x y → r ≡ smaller a b
lesser_of {r} {a} {b} {x} {y} p q e = e ∙ least_is x y ∙ ap₂ smaller p q

pub greater_of : {r a b x y : ℤ} → x ≡ a → y ≡ b → r ≡ int_max x y → r ≡ greater a b
greater_of {r} {a} {b} {x} {y} p q e = e ∙ most_is x y ∙ ap₂ greater p q
