-- The bits of a mark: setting one adds its power of two where it is clear, and no other bit changes.
use Prim.Native.Nat.{ℕ, ◌+◌, ◌*◌, ◌-◌, ◌/◌, ◌%◌, ◌^◌, ◌≤◌, ◌<◌}
use mathlib.Core.Path.{◌≡◌, refl, sym, ◌∙◌, ap}
use mathlib.Core.Bool.{Bool, true, false}
use native.Mathlib.Nat as NatL
use native.Mathlib.Omega.{arith}
use native.Mathlib.Decide.{dec_le}
use borrow.Author.Tests.{eqb-true, eqb-false, eq-eqb}
use lib.Dec.{eqb}
use lib.Pow.{pow-add, pow_pos, split}
use mathlib.Core.Logic.{⊎_elim}
use mir.Syntax.{w32}
use Rattle.std.specs.Int.{bit_at}
use Rattle.std.specs.Prelude.{bit_or}
use Rattle.std.proofs.lemmas.Bool.{cases_eq}
use Rattle.std.proofs.lemmas.Nat.Bits.{bit_at_set_same, bit_at_set_other, bit_at-lt, same_from_bits}
use Rattle.number.specs.Read.{pick}
use Rattle.number.proofs.GroupLaws.{pick_by}
use Rattle.marks.specs.Marks.{mark_width, has_bit, with_bit}

-- the place of bit p, split off the place of a higher one
powers : (p k : ℕ) → 2 ^ (p + 1 + k) ≡ 2 ^ p * 2 * 2 ^ k
powers p k = pow-add 2 (p + 1) k ∙ ap (λ (x : ℕ). x * 2 ^ k) (pow-add 2 p 1)

pub bit_clear : (p m : ℕ) → has_bit p m ≡ false → m / 2 ^ p % 2 ≡ 0
bit_clear p m e = omega (arith, eqb-false (m / 2 ^ p % 2) 1 e)

-- what lies above a clear bit stays where the bit is added
half_stays : (m b : ℕ) → 0 < b → m / b % 2 ≡ 0 → (m + b) / (b * 2) ≡ m / (b * 2)
half_stays m b b1 h =
    let e : (m + b) / b / 2 ≡ m / b / 2 = omega (arith, NatL.add-div_right m b1) in
    sym (NatL.div-div-eq-div-mul (m + b) b 2) ∙ e ∙ NatL.div-div-eq-div-mul m b 2

above_stays : (p k m : ℕ) → m / 2 ^ p % 2 ≡ 0 → (m + 2 ^ p) / 2 ^ (p + 1 + k) ≡ m / 2 ^ (p + 1 + k)
above_stays p k m h =
    rw (powers p k)
    (sym (NatL.div-div-eq-div-mul (m + 2 ^ p) (2 ^ p * 2) (2 ^ k)) ∙ ap (λ (x : ℕ). x / 2 ^ k) (half_stays m (2 ^ p) (pow_pos p) h) ∙ NatL.div-div-eq-div-mul m (2 ^ p * 2) (2 ^ k))

-- and what lies below
below_stays : (q k m : ℕ) → (m + 2 ^ (q + 1 + k)) / 2 ^ q % 2 ≡ m / 2 ^ q % 2
below_stays q k m =
    let e : 2 ^ (q + 1 + k) ≡ 2 ^ q * (2 * 2 ^ k) = powers q k ∙ NatL.mul_assoc (2 ^ q) 2 (2 ^ k) in
    let d : (m + 2 ^ q * (2 * 2 ^ k)) / 2 ^ q ≡ m / 2 ^ q + 2 * 2 ^ k = NatL.add-mul-div_left m (2 * 2 ^ k) (pow_pos q) in
    rw (e, d) (omega arith)

module _ (p m : ℕ) where
  above_same : (k : ℕ) → with_bit p m / 2 ^ (p + 1 + k) ≡ m / 2 ^ (p + 1 + k)
  above_same k = pick_by (λ (x : ℕ). x / 2 ^ (p + 1 + k) ≡ m / 2 ^ (p + 1 + k)) (has_bit p m) (λ e. refl) (λ e. above_stays p k m (bit_clear p m e))

  -- the bits from any number above p on stay
  pub above_bits : (n : ℕ) → p < n → with_bit p m / 2 ^ n ≡ m / 2 ^ n
  above_bits n h =
      let e : p + 1 + (n - (p + 1)) ≡ n = omega arith in
      rw e at (above_same (n - (p + 1)))

  -- a mark of w bits stays one
  pub with_bit_fits : (w : ℕ) → p < w → m < 2 ^ w → with_bit p m < 2 ^ w
  with_bit_fits w h l =
      let z : with_bit p m / 2 ^ w ≡ 0 = above_bits w h ∙ NatL.div-eq_of_lt l in
      let e : 0 * 2 ^ w + with_bit p m % 2 ^ w ≡ with_bit p m = rw z at (split (with_bit p m) w) in
      omega (arith, e, NatL.mod-lt (with_bit p m) (pow_pos w))

  -- its own bit is set, every other is as it was
  pub own_bit : has_bit p (with_bit p m) ≡ true
  own_bit =
      pick_by (λ (x : ℕ). has_bit p x ≡ true) (has_bit p m) (λ e. e)
      (λ e. eq-eqb ((m + 2 ^ p) / 2 ^ p % 2) 1 (omega (arith, bit_clear p m e, NatL.add-div_right m (pow_pos p))))

  higher_bit : (k : ℕ) → has_bit (p + 1 + k) (with_bit p m) ≡ has_bit (p + 1 + k) m
  higher_bit k = ap (λ (x : ℕ). eqb (x % 2) 1) (above_same k)

lower_bit : (q k m : ℕ) → has_bit q (with_bit (q + 1 + k) m) ≡ has_bit q m
lower_bit q k m =
    pick_by (λ (x : ℕ). has_bit q x ≡ has_bit q m) (has_bit (q + 1 + k) m) (λ e. refl)
    (λ e. ap (λ (x : ℕ). eqb x 1) (below_stays q k m))

pub other_bit : (p q m : ℕ) → (p ≡ q → ⊥) → has_bit q (with_bit p m) ≡ has_bit q m
other_bit p q m d = by (dec_le p q)
  where
    by : Dec (p ≤ q) → has_bit q (with_bit p m) ≡ has_bit q m
    by (yes h) =
        let e : p + 1 + (q - (p + 1)) ≡ q = omega arith in
        rw e at (higher_bit p m (q - (p + 1)))
    by (no h) =
        let e : q + 1 + (p - (q + 1)) ≡ p = omega arith in
        rw e at (lower_bit q (p - (q + 1)) m)

-- two bits can be set in either order
set_both : (p q m : ℕ) → (p ≡ q → ⊥) → (s t : Bool) → has_bit p m ≡ s → has_bit q m ≡ t → with_bit q (with_bit p m) ≡ pick s (pick t m (m + 2 ^ q)) (pick t (m + 2 ^ p) (m + 2 ^ p + 2 ^ q))
set_both p q m d s t e f = rw (other_bit p q m d ∙ f) (by s t e)
  where
    by : (s t : Bool) → has_bit p m ≡ s → pick t (with_bit p m) (with_bit p m + 2 ^ q) ≡ pick s (pick t m (m + 2 ^ q)) (pick t (m + 2 ^ p) (m + 2 ^ p + 2 ^ q))
    by true t e = rw e
    by false t e = rw e

pub bits_commute : (p q m : ℕ) → (p ≡ q → ⊥) → with_bit q (with_bit p m) ≡ with_bit p (with_bit q m)
bits_commute p q m d = set_both p q m d _ _ refl refl ∙ by (has_bit p m) (has_bit q m) ∙ sym (set_both q p m (λ e. d (sym e)) _ _ refl refl)
  where
    by : (s t : Bool) → pick s (pick t m (m + 2 ^ q)) (pick t (m + 2 ^ p) (m + 2 ^ p + 2 ^ q)) ≡ pick t (pick s m (m + 2 ^ p)) (pick s (m + 2 ^ q) (m + 2 ^ q + 2 ^ p))
    by true true = refl
    by true false = refl
    by false true = refl
    by false false = omega arith

-- two bits that a test cannot tell apart
equal_bits : (a b : ℕ) → a < 2 → b < 2 → eqb a 1 ≡ eqb b 1 → a ≡ b
equal_bits a b ha hb e = by (eqb a 1) refl
  where
    by : (t : Bool) → eqb a 1 ≡ t → a ≡ b
    by true p = eqb-true a 1 p ∙ sym (eqb-true b 1 (sym e ∙ p))
    by false p = omega (arith, eqb-false a 1 p, eqb-false b 1 (sym e ∙ p))

-- the bit as the code sets it
pub set_bit : (p m : ℕ) → p < mark_width → bit_or m (1 * 2 ^ p % 2 ^ mark_width) ≡ with_bit p m
set_bit p m h = same_from_bits (bit_or m (1 * 2 ^ p % 2 ^ mark_width)) (with_bit p m) (λ i. ⊎_elim (own i) (other i) (cases_eq i p))
  where
    own : (i : ℕ) → i ≡ p → bit_at (bit_or m (1 * 2 ^ p % 2 ^ mark_width)) i ≡ bit_at (with_bit p m) i
    own i e = rw e (bit_at_set_same w32 m p h ∙ sym (eqb-true (bit_at (with_bit p m) p) 1 (own_bit p m)))

    other : (i : ℕ) → (i ≡ p → ⊥) → bit_at (bit_or m (1 * 2 ^ p % 2 ^ mark_width)) i ≡ bit_at (with_bit p m) i
    other i d =
        bit_at_set_other w32 m p h i d
        ∙ equal_bits (bit_at m i) (bit_at (with_bit p m) i) (bit_at-lt m i) (bit_at-lt (with_bit p m) i) (sym (other_bit p i m (λ e. d (sym e))))
