-- Sizes of sums and products, what a size says of the order, and what fits a machine's integer.
use mathlib.Core.Path.{◌≡◌, refl}
use mathlib.Core.List.{List, [], ◌∷◌}
use mathlib.Core.Bool.{Bool, true, false, cond}
use Prim.Native.Nat.{ℕ, zero, suc, ◌+◌, ◌*◌, ◌-◌, ◌^◌, ◌≤◌, zero-le}
use native.Mathlib.Nat as NatL
use native.Mathlib.Omega.{arith}
use lib.Dec.{T, leb→le, le→leb, ltb, ltb→lt}
use lib.IntN.{ℤ, pos, negsuc, neg_ℤ, nat_abs, ◌+ℤ◌, ◌-ℤ◌, ◌*ℤ◌}
use lib.Signed.{◌≤ℤ◌, le_z, mag}
use mir.Syntax.{w64}
use mir.Val.{SFits}
use Rattle.exact.specs.Size.{Within}
use Rattle.exact.proofs.Polynomial.{◌⊕◌, ◌⊗◌, var}
use Rattle.exact.proofs.Order.{pos-≤}
use Rattle.exact.proofs.Certificate.{◌⊞◌, hyp, sq, le, ≤-of-squares, ≥-of-squares}

-- nat_abs of negations, products and sums
pub abs_neg_pos : (n : ℕ) → nat_abs (neg_ℤ (pos n)) ≡ n
abs_neg_pos zero = refl
abs_neg_pos (suc n) = refl

pub abs_neg : (z : ℤ) → nat_abs (neg_ℤ z) ≡ nat_abs z
abs_neg (pos n) = abs_neg_pos n
abs_neg (negsuc n) = refl

abs_mul : (x y : ℤ) → nat_abs (x *ℤ y) ≡ nat_abs x * nat_abs y
abs_mul (pos a) (pos b) = refl
abs_mul (pos a) (negsuc b) = abs_neg_pos (a * suc b)
abs_mul (negsuc a) (pos b) = abs_neg_pos (suc a * b)
abs_mul (negsuc a) (negsuc b) = refl

abs_difference : (t : Bool) (a b : ℕ) → nat_abs (cond t (negsuc (suc b - suc a)) (pos (a - suc b))) ≤ a + suc b
abs_difference true a b = omega arith
abs_difference false a b = omega arith

abs_add : (x y : ℤ) → nat_abs (x +ℤ y) ≤ nat_abs x + nat_abs y
abs_add (pos a) (pos b) = NatL.le_refl (a + b)
abs_add (pos a) (negsuc b) = abs_difference (ltb a (suc b)) a b
abs_add (negsuc a) (pos b) = omega (arith, abs_difference (ltb b (suc a)) b a)
abs_add (negsuc a) (negsuc b) = omega arith

-- the size of a sum, a difference, a product and a negation
pub within_add : {a b : ℕ} {x y : ℤ} → Within a x → Within b y → Within (a + b) (x +ℤ y)
within_add {a} {b} {x} {y} p q = record { size = omega (arith, abs_add x y, p.size, q.size) }

pub within_sub : {a b : ℕ} {x y : ℤ} → Within a x → Within b y → Within (a + b) (x -ℤ y)
within_sub {a} {b} {x} {y} p q = record { size = omega (arith, abs_add x (neg_ℤ y), abs_neg y, p.size, q.size) }

pub within_mul : {a b : ℕ} {x y : ℤ} → Within a x → Within b y → Within (a * b) (x *ℤ y)
within_mul {a} {b} {x} {y} p q = record { size = rw (abs_mul x y) (NatL.mul-le-mul p.size q.size) }

pub within_neg : {a : ℕ} {x : ℤ} → Within a x → Within a (neg_ℤ x)
within_neg {a} {x} p = record { size = rw (abs_neg x) p.size }

pub within_more : {a b : ℕ} {x : ℤ} → a ≤ b → Within a x → Within b x
within_more h p = record { size = NatL.le_trans p.size h }

-- a size as two orders, both ways
≤-size' : (b : ℕ) (z : ℤ) → nat_abs z ≤ b → T (le_z z (pos b))
≤-size' b (pos n) h = le→leb n b h
≤-size' b (negsuc n) h = tt

≥-size' : (b : ℕ) (z : ℤ) → nat_abs z ≤ b → T (le_z (neg_ℤ (pos b)) z)
≥-size' zero (pos n) h = le→leb 0 n zero-le
≥-size' (suc b) (pos n) h = tt
≥-size' zero (negsuc n) h = absurd (none n h)
  where
    none : (n : ℕ) → suc n ≤ zero → ⊥
    none n h = omega arith
≥-size' (suc b) (negsuc n) h = omega (arith, le→leb)

pub ≤-size : {b : ℕ} {z : ℤ} → Within b z → z ≤ℤ pos b
≤-size {b} {z} p = record { le = ≤-size' b z p.size }

pub ≥-size : {b : ℕ} {z : ℤ} → Within b z → neg_ℤ (pos b) ≤ℤ z
≥-size {b} {z} p = record { le = ≥-size' b z p.size }

within' : (b : ℕ) (z : ℤ) → T (le_z (neg_ℤ (pos b)) z) → T (le_z z (pos b)) → nat_abs z ≤ b
within' b (pos n) h k = leb→le n b k
within' zero (negsuc n) h k = absurd h
within' (suc b) (negsuc n) h k = omega (arith, leb→le)

pub within : {b : ℕ} {z : ℤ} → neg_ℤ (pos b) ≤ℤ z → z ≤ℤ pos b → Within b z
within {b} {z} h k = record { size = within' b z h.le k.le }

-- a coordinate is no larger than its vector
pub within_first : (b : ℕ) (x y : ℤ) → (x *ℤ x +ℤ y *ℤ y) ≤ℤ (pos b *ℤ pos b) → Within b x
within_first b x y h =
    let s : (x *ℤ x) ≤ℤ (pos b *ℤ pos b) = le {ρ = x ∷ y ∷ pos b ∷ []} (var 0 ⊗ var 0) (var 2 ⊗ var 2) (hyp (var 0 ⊗ var 0 ⊕ var 1 ⊗ var 1) (var 2 ⊗ var 2) h ⊞ sq (var 1)) tt in
    within (≥-of-squares x (pos b) (pos-≤ zero-le) s) (≤-of-squares x (pos b) (pos-≤ zero-le) s)

pub within_second : (b : ℕ) (x y : ℤ) → (x *ℤ x +ℤ y *ℤ y) ≤ℤ (pos b *ℤ pos b) → Within b y
within_second b x y h =
    within_first b y x (le {ρ = x ∷ y ∷ pos b ∷ []} (var 1 ⊗ var 1 ⊕ var 0 ⊗ var 0) (var 2 ⊗ var 2) (hyp (var 0 ⊗ var 0 ⊕ var 1 ⊗ var 1) (var 2 ⊗ var 2) h) tt)

-- a size below 2^63 fits a signed integer of 64 bits; `tt` computes the bound
pub mag-≤-abs : (z : ℤ) → mag z ≤ nat_abs z
mag-≤-abs (pos n) = NatL.le_refl n
mag-≤-abs (negsuc n) = omega arith

pub fits64 : {b : ℕ} {z : ℤ} → T (ltb b (2 ^ 63)) → Within b z → SFits w64 z
fits64 {b} {z} t p = record { sfits = omega (arith, mag-≤-abs z, p.size, ltb→lt b (2 ^ 63) t) }
