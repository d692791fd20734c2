-- Laws of decimal text: its cases as equations, its digits by number, its length. Assumes nothing.
use Prim.Native.Nat.{ℕ, zero, suc, ◌+◌, ◌*◌, ◌/◌, ◌%◌, ◌^◌, ◌<◌, ◌≤◌, max}
use mathlib.Core.Path.{◌≡◌, refl, sym, ◌∙◌, ap}
use mathlib.Core.List.{List, [], ◌∷◌, ◌++◌}
use mathlib.Core.Bool.{Bool, true, false}
use native.Mathlib.Omega.{arith}
use native.Mathlib.Nat.{pow-suc}
use lib.Dec.{ltb}
use lib.IntN.{ℤ, pos, negsuc, nat_abs}
use lib.ListN.{length, length-append}
use borrow.Author.Tests.{ltb-true, ltb-false}
use Rattle.text.specs.Decimal.{digit, digits, front, decimal, signed_decimal}

pub digits_length : (k n : ℕ) → length (digits k n) ≡ k
unfolding digits
digits_length zero n = refl
digits_length (suc k) n = omega (arith, length-append (digits k (n / 10)) (digit (n % 10) ∷ []), digits_length k (n / 10))

-- a number has one digit or more
pub either : {A : Type 0} (n : ℕ) → (n < 10 → A) → (10 ≤ n → A) → A
either {A} n f g = go (ltb n 10) refl
  where
    go : (b : Bool) → ltb n 10 ≡ b → A
    go true e = f (ltb-true n 10 e)
    go false e = g (ltb-false n 10 e)

front_none : (k : ℕ) → front k 0 ≡ []
unfolding front
front_none zero = refl
front_none (suc k) = refl

-- how often n may be divided does not tell, from n on
often : (k m n : ℕ) → n ≤ k → n ≤ m → front k n ≡ front m n
unfolding front
often zero m n h i = let e : n ≡ 0 = omega arith in rw (e, front_none m)
often (suc k) zero n h i = let e : n ≡ 0 = omega arith in rw e
often (suc k) (suc m) zero h i = refl
often (suc k) (suc m) (suc n) h i = rw (often k m (suc n / 10) (omega arith) (omega arith))

-- the two cases
pub decimal_one : (n : ℕ) → n < 10 → decimal n ≡ digit n ∷ []
unfolding front decimal
decimal_one n h =
    let p : n / 10 ≡ 0 = omega arith in
    let q : n % 10 ≡ n = omega arith in
    rw (p, q, front_none n)

front_more : (k n : ℕ) → n ≤ k → 1 ≤ n → front k n ≡ decimal n
unfolding front decimal
front_more zero n h l = absurd (omega arith)
front_more (suc k) zero h l = absurd (omega arith)
front_more (suc k) (suc n) h l = rw (often k (suc n) (suc n / 10) (omega arith) (omega arith))

pub decimal_more : (n : ℕ) → 10 ≤ n → decimal n ≡ decimal (n / 10) ++ (digit (n % 10) ∷ [])
decimal_more n h = unfold decimal in ap (λ (l : List ℕ). l ++ (digit (n % 10) ∷ [])) (front_more n (n / 10) (omega arith) (omega arith))

pub count_one : (n : ℕ) → n < 10 → length (decimal n) ≡ 1
count_one n h = rw (decimal_one n h)

pub count_more : (n : ℕ) → 10 ≤ n → length (decimal n) ≡ length (decimal (n / 10)) + 1
count_more n h = rw (decimal_more n h) (omega (arith, length-append (decimal (n / 10)) (digit (n % 10) ∷ [])))

pub some_digit : (n : ℕ) → 1 ≤ length (decimal n)
some_digit n = either n (λ s. omega (arith, count_one n s)) (λ g. omega (arith, count_more n g))

ten_power : (k : ℕ) → 1 ≤ 10 ^ k
ten_power zero = omega arith
ten_power (suc k) = omega (arith, pow-suc 10 k, ten_power k)

-- a power of ten more, a digit more; 0 counts as 1
pub count_power : (k n : ℕ) → 10 ^ k ≤ max n 1 → max n 1 < 10 * 10 ^ k → length (decimal n) ≡ k + 1
count_power zero n h l = count_one n (omega arith)
count_power (suc k) n h l =
    let p = pow-suc 10 k in
    let g : 10 ≤ n = omega (arith, ten_power k) in
    omega (arith, count_more n g, count_power k (n / 10) (omega (arith, ten_power k)) (omega (arith, ten_power k)))

digits_one : (n : ℕ) → n < 10 → digits 1 n ≡ digit n ∷ []
unfolding digits
digits_one n h = let e : n % 10 ≡ n = omega arith in rw e

digits_more : (k n : ℕ) → digits (k + 1) n ≡ digits k (n / 10) ++ (digit (n % 10) ∷ [])
unfolding digits
digits_more k n = let e : k + 1 ≡ suc k = omega arith in rw e

by_one : (n : ℕ) → n < 10 → decimal n ≡ digits (length (decimal n)) n
by_one n h = rw (count_one n h, decimal_one n h, digits_one n h)

by_digits : (k n : ℕ) → n ≤ k → decimal n ≡ digits (length (decimal n)) n
by_digits zero n h = by_one n (omega arith)
by_digits (suc k) n h =
    either n
    (by_one n)
    (λ g. decimal_more n g
    ∙ ap (λ (l : List ℕ). l ++ (digit (n % 10) ∷ [])) (by_digits k (n / 10) (omega arith))
    ∙ sym (ap (λ (m : ℕ). digits m n) (count_more n g) ∙ digits_more (length (decimal (n / 10))) n))

-- all its digits, by their number
pub decimal_digits : (n : ℕ) → decimal n ≡ digits (length (decimal n)) n
decimal_digits n = by_digits n n (omega arith)

-- below 10^k, at most k digits
pub decimal_width : (k n : ℕ) → n < 10 ^ k → 1 ≤ k → length (decimal n) ≤ k
decimal_width zero n h l = absurd (omega arith)
decimal_width (suc zero) n h l = omega (arith, count_one n (omega arith))
decimal_width (suc (suc k)) n h l =
    either n
    (λ s. omega (arith, count_one n s))
    (λ g. omega (arith, count_more n g, decimal_width (suc k) (n / 10) (omega (arith, pow-suc 10 (suc k))) (omega arith)))

-- a sign more
pub signed_width : (k : ℕ) (z : ℤ) → nat_abs z < 10 ^ k → 1 ≤ k → length (signed_decimal z) ≤ k + 1
unfolding signed_decimal
signed_width k (pos n) h l = omega (arith, decimal_width k n h l)
signed_width k (negsuc n) h l = omega (arith, decimal_width k (suc n) h l)

-- what the machine's numbers take
pub decimal_64 : (n : ℕ) → n < 2 ^ 64 → length (decimal n) ≤ 20
decimal_64 n h = decimal_width 20 n (omega arith) (omega arith)

pub signed_64 : (z : ℤ) → nat_abs z ≤ 2 ^ 63 → length (signed_decimal z) ≤ 20
signed_64 z h = signed_width 19 z (omega arith) (omega arith)
