-- Numbers as ASCII text in base ten, the most significant digit first.
use Rattle.std.specs.Prelude.{ℕ, zero, suc, ◌+◌, ◌/◌, ◌%◌, List, [], ◌∷◌, ◌++◌, ℤ, pos, negsuc}

-- "0" is 48, and "9" is 57
abbrev pub digit : ℕ → ℕ
digit d = 48 + d

-- the last k digits of n, with zeros in front where n has fewer
unfoldable pub digits : ℕ → ℕ → List ℕ
digits zero n = []
digits (suc k) n = digits k (n / 10) ++ (digit (n % 10) ∷ [])

-- n without zeros in front, nothing for 0; k bounds how often n is divided
unfoldable pub front : ℕ → ℕ → List ℕ
front zero n = []
front (suc k) zero = []
front (suc k) (suc n) = front k (suc n / 10) ++ (digit (suc n % 10) ∷ [])

-- what stands before the last digit, and the last digit: 0 is "0"
unfoldable pub decimal : ℕ → List ℕ
decimal n = front n (n / 10) ++ (digit (n % 10) ∷ [])

-- "-" before the digits of a negative number's size; `negsuc k` is −(k + 1)
unfoldable pub signed_decimal : ℤ → List ℕ
signed_decimal (pos n) = decimal n
signed_decimal (negsuc k) = 45 ∷ decimal (suc k)
