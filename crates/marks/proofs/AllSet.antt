-- All bits of the first points are set just where each of them is, just where the mark's remainder is the greatest, and just where the mark ends in so
-- many ones.
use Prim.Native.Nat.{ℕ, zero, suc, ◌+◌, ◌*◌, ◌-◌, ◌/◌, ◌%◌, ◌^◌, ◌≤◌, ◌<◌}
use mathlib.Core.Path.{◌≡◌, refl, sym, ◌∙◌, subst}
use mathlib.Core.Bool.{Bool, true, false, ◌&&◌}
use mathlib.Core.Logic.{⊎_elim}
use native.Mathlib.Nat as NatL
use native.Mathlib.Numerals.{add-one}
use native.Mathlib.Omega.{arith}
use borrow.Author.Tests.{eqb-true, eqb-false, eq-eqb, ne_eqb, le-leb, lt-leb}
use lib.Dec.{leb, eqb}
use lib.Pow.{pow-add, pow_pos, mod-pow-add}
use lib.Count.{count_trailing_zeros}
use mir.Syntax.{w32}
use Rattle.std.specs.Int.{bit_at, trailing_ones}
use Rattle.std.proofs.lemmas.Bool.{and_parts, cases_lt, false_from_ne_true}
use Rattle.std.proofs.lemmas.Nat.Bits.{bit_at-trailing_ones, bit_at_ones}
use Rattle.marks.specs.Marks.{mark_width, has_bit, all_set}
use Rattle.marks.proofs.Bits.{bit_clear}

double : (n : ℕ) → 2 ^ suc n ≡ 2 ^ n * 2
double n = rw (← add-one n) (pow-add 2 n 1)

module _ (m : ℕ) where
  pub each_set : (n : ℕ) → all_set n m ≡ true → (p : ℕ) → p < n → has_bit p m ≡ true
  unfolding all_set
  each_set zero e p h = absurd (NatL.not-suc-le-zero h)
  each_set (suc n) e p h =
      let b = and_parts (all_set n m) (has_bit n m) e in
      ⊎_elim (λ (q : p ≡ n). subst (λ (x : ℕ). has_bit x m ≡ true) (sym q) b.1) (λ (k : p < n). each_set n b.0 p k) (NatL.eq-or-lt_of_le (NatL.le_of_suc-le-suc h))

  pub all_set_lem : (n : ℕ) → ((p : ℕ) → p < n → has_bit p m ≡ true) → all_set n m ≡ true
  unfolding all_set
  all_set_lem zero h = refl
  all_set_lem (suc n) h = rw (all_set_lem n (λ p l. h p (omega arith)), h n (omega arith))

  -- one bit more of the remainder
  next_remainder : (n : ℕ) → m % (2 ^ n * 2) ≡ (m / 2 ^ n % 2) * 2 ^ n + m % 2 ^ n
  next_remainder n = rw (← pow-add 2 n 1, NatL.add_comm n 1) (mod-pow-add m 1 n)

  pub by_remainder : (n : ℕ) → eqb (m % 2 ^ n) (2 ^ n - 1) ≡ all_set n m
  unfolding all_set
  by_remainder zero = eq-eqb (m % 1) 0 (omega arith)
  by_remainder (suc n) = rw (double n) (by (has_bit n m) refl (all_set n m) (by_remainder n))
    where
      b : ℕ
      b = 2 ^ n

      clear : (u : Bool) → false ≡ (u && false)
      clear true = refl
      clear false = refl

      by : (t : Bool) → has_bit n m ≡ t → (u : Bool) → eqb (m % b) (b - 1) ≡ u → eqb (m % (b * 2)) (b * 2 - 1) ≡ (u && t)
      by true e true f =
          let h : m / b % 2 ≡ 1 = eqb-true (m / b % 2) 1 e in
          let r : m % (b * 2) ≡ 1 * b + m % b = rw h at (next_remainder n) in
          eq-eqb (m % (b * 2)) (b * 2 - 1) (omega (arith, r, eqb-true (m % b) (b - 1) f, pow_pos n))
      by true e false f =
          let h : m / b % 2 ≡ 1 = eqb-true (m / b % 2) 1 e in
          let r : m % (b * 2) ≡ 1 * b + m % b = rw h at (next_remainder n) in
          ne_eqb (m % (b * 2)) (b * 2 - 1) (λ q. eqb-false (m % b) (b - 1) f (omega (arith, r, q, pow_pos n)))
      by false e u f =
          let r : m % (b * 2) ≡ 0 * b + m % b = rw (bit_clear n m e) at (next_remainder n) in
          let l : m % b < b = NatL.mod-lt m (pow_pos n) in
          ne_eqb (m % (b * 2)) (b * 2 - 1) (λ q. omega (arith, r, q, l)) ∙ clear u

  -- that many ones stand at the end of the mark, or every bit is set
  by_ones_below : (n : ℕ) → m + 1 < 2 ^ mark_width → leb n (trailing_ones w32 m) ≡ all_set n m
  by_ones_below n below = ⊎_elim broken held (cases_lt (trailing_ones w32 m) n)
    where
      ones : (trailing_ones w32 m < mark_width) × (bit_at m (trailing_ones w32 m) ≡ 0) × ((i : ℕ) → i < trailing_ones w32 m → bit_at m i ≡ 1)
      ones = bit_at-trailing_ones w32 m below

      held : n ≤ trailing_ones w32 m → leb n (trailing_ones w32 m) ≡ all_set n m
      held h = le-leb n (trailing_ones w32 m) h ∙ sym (all_set_lem n (λ p l. eq-eqb (bit_at m p) 1 (ones.2 p (omega arith))))

      broken : trailing_ones w32 m < n → leb n (trailing_ones w32 m) ≡ all_set n m
      broken h =
          lt-leb n (trailing_ones w32 m) h
          ∙ sym (false_from_ne_true (all_set n m) (λ e. let one = eqb-true (bit_at m (trailing_ones w32 m)) 1 (each_set n e (trailing_ones w32 m) h) in omega (arith, one, ones.1)))

pub by_ones : (n m : ℕ) → n ≤ mark_width → m < 2 ^ mark_width → leb n (trailing_ones w32 m) ≡ all_set n m
unfolding count_trailing_zeros
by_ones n m short fits = ⊎_elim (by_ones_below m n) full (cases_lt (m + 1) (2 ^ mark_width))
  where
    full : 2 ^ mark_width ≤ m + 1 → leb n (trailing_ones w32 m) ≡ all_set n m
    full h =
        let e : m ≡ 2 ^ mark_width - 1 = omega arith in
        rw e (le-leb n mark_width short ∙ sym (all_set_lem (2 ^ mark_width - 1) n (λ p l. eq-eqb (bit_at (2 ^ mark_width - 1) p) 1 (bit_at_ones mark_width p (omega arith)))))
