-- Laws of reading a number: digit by digit, and of what was written. Assumes nothing.
use Prim.Native.Nat.{ℕ, zero, suc, ◌+◌, ◌-◌, ◌*◌, ◌/◌, ◌%◌, ◌<◌, ◌≤◌}
use mathlib.Core.Path.{◌≡◌, refl, ◌∙◌, ap}
use mathlib.Core.List.{List, [], ◌∷◌, ◌++◌}
use mathlib.Core.Bool.{Bool, true, false}
use native.Mathlib.Omega.{arith}
use native.Mathlib.Numerals.{add-one}
use lib.Dec.{leb}
use lib.ListN.{length, drop, get_or, length-append, drop_of_length-le}
use lib.Seq.{drop-cons}
use borrow.Author.Tests.{leb-true, le-leb, lt-leb}
use Rattle.std.proofs.lemmas.Bool.{and_parts}
use Rattle.text.specs.Decimal.{digit, decimal}
use Rattle.text.specs.Reading.{is_digit, all_digits, value_after, largest, read_if, read_decimal, RoundTrip}
use Rattle.std.proofs.Common.{Option, Some, None}
use Rattle.text.proofs.DecimalLaws.{either, decimal_one, decimal_more}

pub digit_bounds : (b : ℕ) → is_digit b ≡ true → (48 ≤ b) × (b ≤ 57)
digit_bounds b h = let t = and_parts (leb 48 b) (leb b 57) h in (leb-true 48 b t.0, leb-true b 57 t.1)

-- what is left of a text, after digits whose value is v
abbrev rest_of : ℕ → List ℕ → Option ℕ
rest_of v s = read_if (all_digits s) (value_after v s)

rest_digit : (v b : ℕ) (s : List ℕ) → is_digit b ≡ true → rest_of v (b ∷ s) ≡ rest_of (v * 10 + (b - 48)) s
unfolding all_digits value_after
rest_digit v b s h = rw h

rest_other : (v b : ℕ) (s : List ℕ) → is_digit b ≡ false → rest_of v (b ∷ s) ≡ None
unfolding all_digits
rest_other v b s h = rw h

grows : (v : ℕ) (s : List ℕ) → v ≤ value_after v s
unfolding value_after
grows v [] = omega arith
grows v (b ∷ s) = omega (arith, grows (v * 10 + (b - 48)) s)

too_large_lem : (b : Bool) (n : ℕ) → largest < n → read_if b n ≡ None
too_large_lem true n h = rw (lt-leb n largest h)
too_large_lem false n h = refl

rest_large : (v : ℕ) (s : List ℕ) → largest < v → rest_of v s ≡ None
rest_large v s h = too_large_lem (all_digits s) (value_after v s) (omega (arith, grows v s))

small_enough : (n : ℕ) → n ≤ largest → read_if true n ≡ Some n
small_enough n h = rw (le-leb n largest h)

rest_end : (v : ℕ) → v ≤ largest → rest_of v [] ≡ Some v
unfolding all_digits value_after
rest_end v h = small_enough v h

-- the bytes from i on are left to read
pub record Reading (bytes : List ℕ) (value i : ℕ) : Type 0 where
  pub within : i ≤ length bytes
  pub small : value ≤ largest
  pub rest : read_decimal bytes ≡ rest_of value (drop i bytes)

pub read_nothing_lem : (bytes : List ℕ) → length bytes ≡ 0 → read_decimal bytes ≡ None
unfolding read_decimal
read_nothing_lem [] h = refl
read_nothing_lem (b ∷ s) h = absurd (omega arith)

pub read_start_lem : (bytes : List ℕ) → (length bytes ≡ 0 → ⊥) → Reading bytes 0 0
unfolding read_decimal
read_start_lem [] h = absurd (h refl)
read_start_lem (b ∷ s) h = record { within = omega arith; small = omega arith; rest = refl }

module _ {bytes : List ℕ} {value i : ℕ} (r : Reading bytes value i) where
  abbrev byte : ℕ
  byte = get_or bytes i 0

  pub read_other : i < length bytes → is_digit (get_or bytes i 0) ≡ false → read_decimal bytes ≡ None
  read_other h d = r.rest ∙ ap (rest_of value) (drop-cons bytes i 0 h) ∙ rest_other value byte (drop (suc i) bytes) d

  one_more : i < length bytes → is_digit (get_or bytes i 0) ≡ true → read_decimal bytes ≡ rest_of (value * 10 + (get_or bytes i 0 - 48)) (drop (suc i) bytes)
  one_more h d = r.rest ∙ ap (rest_of value) (drop-cons bytes i 0 h) ∙ rest_digit value byte (drop (suc i) bytes) d

  pub read_large : i < length bytes → is_digit (get_or bytes i 0) ≡ true → largest < value * 10 + (get_or bytes i 0 - 48) → read_decimal bytes ≡ None
  read_large h d l = one_more h d ∙ rest_large _ (drop (suc i) bytes) l

  pub read_next : i < length bytes → is_digit (get_or bytes i 0) ≡ true → value * 10 + (get_or bytes i 0 - 48) ≤ largest → Reading bytes (value * 10 + (get_or bytes i 0 - 48)) (i + 1)
  read_next h d l = record { within = omega arith; small = l; rest = rw (add-one i) (one_more h d) }

  pub read_end_lem : length bytes ≤ i → read_decimal bytes ≡ Some value
  read_end_lem h = r.rest ∙ ap (rest_of value) (drop_of_length-le bytes {i = i} h) ∙ rest_end value r.small

-- what `decimal` writes: digits, whose value is the number
record Written (n : ℕ) (s : List ℕ) : Type 0 where
  pub digits : all_digits s ≡ true
  pub value : value_after 0 s ≡ n
  pub some : 1 ≤ length s

is_digit_lem : (d : ℕ) → d < 10 → is_digit (digit d) ≡ true
is_digit_lem d h = rw (le-leb 48 (digit d) (omega arith), le-leb (digit d) 57 (omega arith))

all_last : (s : List ℕ) (b : ℕ) → all_digits s ≡ true → is_digit b ≡ true → all_digits (s ++ (b ∷ [])) ≡ true
unfolding all_digits
all_last [] b h d = rw d
all_last (a ∷ s) b h d = let t = and_parts (is_digit a) (all_digits s) h in rw t.0 (all_last s b t.1 d)

value_last : (v : ℕ) (s : List ℕ) (b : ℕ) → value_after v (s ++ (b ∷ [])) ≡ value_after v s * 10 + (b - 48)
unfolding value_after
value_last v [] b = refl
value_last v (a ∷ s) b = value_last (v * 10 + (a - 48)) s b

written_one : (n : ℕ) → n < 10 → Written n (decimal n)
unfolding all_digits value_after
written_one n h = rw (decimal_one n h) (record { digits = rw (is_digit_lem n h); value = omega arith; some = omega arith })

written_more : (n : ℕ) → 10 ≤ n → Written (n / 10) (decimal (n / 10)) → Written n (decimal n)
written_more n h w =
    let s = decimal (n / 10) in
    let b = digit (n % 10) in
    rw (decimal_more n h)
    (record {
      digits = all_last s b w.digits (is_digit_lem (n % 10) (omega arith));
      value = omega (arith, value_last 0 s b, w.value);
      some = omega (arith, length-append s (b ∷ []));
    })

by_size : (k n : ℕ) → n ≤ k → Written n (decimal n)
by_size zero n h = written_one n (omega arith)
by_size (suc k) n h = either n (written_one n) (λ g. written_more n g (by_size k (n / 10) (omega arith)))

read_written : (n : ℕ) (s : List ℕ) → Written n s → read_decimal s ≡ read_if true n
unfolding read_decimal
read_written n [] w = absurd (omega (arith, w.some))
read_written n (b ∷ s) w = rw (w.digits, w.value)

read_decimal_lem : (n : ℕ) → read_decimal (decimal n) ≡ read_if true n
read_decimal_lem n = read_written n (decimal n) (by_size n n (omega arith))

pub round_trip : RoundTrip
unfolding read_decimal all_digits value_after
round_trip = record {
  read_back = λ n h. read_decimal_lem n ∙ small_enough n h;
  too_large = λ n h. read_decimal_lem n ∙ too_large_lem true n h;
  zero_in_front = λ b s. refl;
}
