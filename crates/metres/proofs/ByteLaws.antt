-- The number that bytes make: one byte more in front, as the machine makes it, and how large it is.
use mathlib.Core.Path.{◌≡◌, refl, ◌∙◌, ap}
use mathlib.Core.List.{List, ◌++◌}
use Prim.Native.Nat.{ℕ, zero, suc, ◌+◌, ◌*◌, ◌-◌, ◌^◌, ◌≤◌, ◌<◌}
use native.Mathlib.Nat.{pow-suc, add-zero, add_assoc}
use mir.Syntax.{w64}
use Rattle.std.specs.Int.{from_le_bytes}
use native.Mathlib.Omega.{arith}
use lib.ListN.{length, take, drop, replicate, get_or, length-take, length-drop}
use Rattle.std.proofs.lemmas.List.{get_or_append_left, get_or-append_right, get_or-take, get_or-drop}
use Rattle.metres.specs.Bytes.{little_endian}

pub none_read : (s : List ℕ) (at : ℕ) → little_endian 0 s at ≡ 0
unfolding little_endian
none_read s at = refl

-- one byte more in front, with the counts as a loop that runs down from n has them
pub one_more : (n i : ℕ) (s : List ℕ) (at : ℕ) → 0 < i → i ≤ n → get_or s (at + (i - 1)) 0 + 256 * little_endian (n - i) s (at + i) ≡ little_endian (n - (i - 1)) s (at + (i - 1))
unfolding little_endian
one_more n i s at h k =
    let a : at + i ≡ at + (i - 1) + 1 = omega arith in
    let b : suc (n - i) ≡ n - (i - 1) = omega arith in
    ap (λ (x : ℕ). get_or s (at + (i - 1)) 0 + 256 * little_endian (n - i) s x) a ∙ ap (λ (x : ℕ). little_endian x s (at + (i - 1))) b

-- the same bytes in two lists
agree : (n : ℕ) (s t : List ℕ) (at i : ℕ) → ((k : ℕ) → k < n → get_or t (i + k) 0 ≡ get_or s (at + k) 0) → little_endian n t i ≡ little_endian n s at
unfolding little_endian
agree zero s t at i h = refl
agree (suc n) s t at i h =
    let first : get_or t i 0 ≡ get_or s at 0 = simp add-zero at (h 0 (omega arith)) in
    let others : (k : ℕ) → k < n → get_or t (i + 1 + k) 0 ≡ get_or s (at + 1 + k) 0 = λ k l. simp add_assoc (h (1 + k) (omega arith)) in
    rw (first, agree n s t (at + 1) (i + 1) others)

-- zeros after the bytes
zeros : (m : ℕ) (t : List ℕ) (i : ℕ) → ((k : ℕ) → i ≤ k → get_or t k 0 ≡ 0) → little_endian m t i ≡ 0
unfolding little_endian
zeros zero t i h = refl
zeros (suc m) t i h = rw (h i (omega arith), zeros m t (i + 1) (λ k l. h k (omega arith)))

padded : (n m : ℕ) (t : List ℕ) (i : ℕ) → ((k : ℕ) → i + n ≤ k → get_or t k 0 ≡ 0) → little_endian (n + m) t i ≡ little_endian n t i
unfolding little_endian
padded zero m t i h = let e : 0 + m ≡ m = omega arith in rw e (zeros m t i (λ k l. h k (omega arith)))
padded (suc n) m t i h = let e : suc n + m ≡ suc (n + m) = omega arith in rw (e, padded n m t (i + 1) (λ k l. h k (omega arith)))

-- as the machine makes a number of eight bytes
eight : (t : List ℕ) → from_le_bytes w64 t ≡ little_endian 8 t 0
unfolding little_endian
eight t = omega arith

-- some of a list's bytes, and zeros after them
machine_bytes : (n at : ℕ) (s t : List ℕ) → n ≤ 8 → ((k : ℕ) → k < n → get_or t k 0 ≡ get_or s (at + k) 0) → ((k : ℕ) → n ≤ k → get_or t k 0 ≡ 0) → from_le_bytes w64 t ≡ little_endian n s at
machine_bytes n at s t m same none =
    let e : 8 ≡ n + (8 - n) = omega arith in
    eight t
    ∙ ap (λ (j : ℕ). little_endian j t 0) e
    ∙ padded n (8 - n) t 0 (λ k l. none k (omega arith))
    ∙ agree n s t at 0 (λ k l. let z : 0 + k ≡ k = omega arith in rw z (same k l))

zero_at : (m k : ℕ) → get_or {A = ℕ} (replicate m 0) k 0 ≡ 0
zero_at zero k = refl
zero_at (suc m) zero = refl
zero_at (suc m) (suc k) = zero_at m k

-- a part of a list that is copied to the front of eight zeros
pub copied_bytes : (n at : ℕ) (s part : List ℕ) → n ≤ 8 → at + n ≤ length s → part ≡ take (at + n - at) (drop at s) → from_le_bytes w64 (part ++ drop n (replicate 8 0)) ≡ little_endian n s at
copied_bytes n at s part m h e =
    let c : at + n - at ≡ n = omega arith in
    let is : part ≡ take n (drop at s) = rw c at e in
    let size : length part ≡ n = rw is (omega (arith, length-take n (drop at s), length-drop at s)) in
    machine_bytes n at s (part ++ drop n (replicate 8 0)) m
    (λ k l. let i : k < length part = omega arith in rw (get_or_append_left part (drop n (replicate 8 0)) 0 k i, is, get_or-take) (get_or-drop at s k 0))
    (λ k l. rw (get_or-append_right {X = ℕ} part (drop n (replicate 8 0)) n k 0 size l, get_or-drop {A = ℕ} n (replicate 8 0) (k - n) 0) (zero_at 8 (n + (k - n))))

abbrev pub AllBytes : List ℕ → Type 0
AllBytes s = (k : ℕ) → get_or s k 0 < 256

pub below : (n : ℕ) (s : List ℕ) (at : ℕ) → AllBytes s → little_endian n s at < 256 ^ n
unfolding little_endian
below zero s at h = omega arith
below (suc n) s at h = rw (pow-suc 256 n) (omega (arith, h at, below n s (at + 1) h))
