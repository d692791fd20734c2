-- A size as the two orders that the code tests. Assumes nothing.
use Prim.Native.Nat.{ℕ, zero, suc}
use mathlib.Core.Path.{◌≡◌, refl, sym, ◌∙◌, subst}
use mathlib.Core.Bool.{Bool, true, false, ◌&&◌}
use lib.Dec.{T, leb, eqb, leb→le, le→leb, leb-suc-zero, eqb-suc-zero}
use lib.IntN.{ℤ, pos, neg_ℤ, nat_abs, ◌-ℤ◌}
use lib.Signed.{le_z}
use Rattle.exact.specs.Size.{Within}
use Rattle.exact.proofs.Polynomial.{◌⊜◌, ◌⊖◌, neg, lit, ring1, and_left, and_right}
use Rattle.exact.proofs.Sizes.{within, ≤-size, ≥-size}

-- two tests that hold of the same
same_test : (a b : Bool) → (T a → T b) → (T b → T a) → a ≡ b
same_test true true f g = refl
same_test true false f g = absurd (f tt)
same_test false true f g = absurd (g tt)
same_test false false f g = refl

and : (a b : Bool) → T a → T b → T (a && b)
and true b p q = q
and false b p q = p

minus_is : (b : ℕ) → pos 0 -ℤ pos b ≡ neg_ℤ (pos b)
minus_is b = ring1 (pos b) (λ b. lit 0 ⊖ b ⊜ neg b) tt

pub size_orders : (b : ℕ) (z : ℤ) → (le_z (pos 0 -ℤ pos b) z && le_z z (pos b)) ≡ leb (nat_abs z) b
size_orders b z =
    let low = le_z (pos 0 -ℤ pos b) z in
    let high = le_z z (pos b) in
    same_test (low && high) (leb (nat_abs z) b)
    (λ t. le→leb (nat_abs z) b (within {b = b} {z = z} (record { le = subst (λ (n : ℤ). T (le_z n z)) (minus_is b) (and_left low high t) }) (record { le = and_right low high t })).size)
    (λ t.
    let w : Within b z = record { size = leb→le (nat_abs z) b t } in
    and low high (subst (λ (n : ℤ). T (le_z n z)) (sym (minus_is b)) (≥-size w).le) (≤-size w).le)

-- of size 0, both ways of saying it
pub none_size : (n : ℕ) → leb n 0 ≡ eqb n 0
none_size zero = refl
none_size (suc n) = leb-suc-zero n ∙ sym (eqb-suc-zero n)
