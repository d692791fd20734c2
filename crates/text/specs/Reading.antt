-- Numbers read from ASCII text in base ten (N1, the arguments of the program settings): digits only, at least one, zeros in front allowed.
use Rattle.std.specs.Prelude.{ℕ, ◌+◌, ◌-◌, ◌*◌, ◌<◌, ◌≤◌, ◌≡◌, Bool, true, ◌&&◌, cond, List, [], ◌∷◌, leb, Option, Some, None}
use Rattle.text.specs.Decimal.{decimal}

-- "0" is 48, and "9" is 57
abbrev pub is_digit : ℕ → Bool
is_digit b = leb 48 b && leb b 57

unfoldable pub all_digits : List ℕ → Bool
all_digits [] = true
all_digits (b ∷ s) = is_digit b && all_digits s

-- the value of digits after others, whose value is v: Horner's rule
unfoldable pub value_after : ℕ → List ℕ → ℕ
value_after v [] = v
value_after v (b ∷ s) = value_after (v * 10 + (b - 48)) s

-- the largest number of 32 bits
abbrev pub largest : ℕ
largest = 4294967295

abbrev pub read_if : Bool → ℕ → Option ℕ
read_if digits n = cond (digits && leb n largest) (Some n) None

-- no text is no number
unfoldable pub read_decimal : List ℕ → Option ℕ
read_decimal [] = None
read_decimal (b ∷ s) = read_if (all_digits (b ∷ s)) (value_after 0 (b ∷ s))

-- the claim
pub record RoundTrip : Type 0 where
  pub read_back : (n : ℕ) → n ≤ largest → read_decimal (decimal n) ≡ Some n
  pub too_large : (n : ℕ) → largest < n → read_decimal (decimal n) ≡ None
  -- a zero in front of a text that is not empty
  pub zero_in_front : (b : ℕ) (s : List ℕ) → read_decimal (48 ∷ b ∷ s) ≡ read_decimal (b ∷ s)
