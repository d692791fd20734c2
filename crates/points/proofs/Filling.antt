-- An array filled place by place from a list, as a loop fills it, and what stands in it then.
use Prim.Native.Nat.{ℕ, zero, suc, ◌+◌, ◌-◌, ◌<◌, ◌≤◌}
use mathlib.Core.Path.{◌≡◌, refl, sym, ◌∙◌}
use mathlib.Core.List.{List, ◌++◌, map}
use native.Mathlib.Numerals.{add-one}
use native.Mathlib.Omega.{arith}
use native.Mathlib.Decide.{dec_le}
use lib.ListN.{length, take, drop, get_or, set, replicate, length-replicate, get_or-append, get_or-eq_default}
use lib.Seq.{sets, sets-eq, get_or-append-add, get_or-drop}
use Rattle.number.proofs.ManyLaws.{next_of, none_of}

-- what is left to fill in, over what is filled in, stays the whole
module _ {A B : Type 0} (g : A → B) (xs : List A) (n : ℕ) (ys : List B) (k : ℕ) where
  pub filled_more : (z : A) → n ≤ length xs → k < n → sets (set ys k (g (get_or xs k z))) (k + 1) (map g (drop (k + 1) (take n xs))) ≡ sets ys k (map g (drop k (take n xs)))
  filled_more z h l = rw (next_of xs n k z h l, add-one)

  pub filled_all : n ≤ k → sets ys k (map g (drop k (take n xs))) ≡ ys
  filled_all h = rw (none_of xs n k h)

-- past it stands what stood there before
same_everywhere : {A : Type 0} (n : ℕ) (z : A) (i : ℕ) → get_or (replicate n z) i z ≡ z
same_everywhere zero z i = refl
same_everywhere (suc n) z zero = refl
same_everywhere (suc n) z (suc i) = same_everywhere n z i

pub padded : {A : Type 0} (n : ℕ) (z : A) (xs : List A) → length xs ≤ n → (i : ℕ) → get_or (sets (replicate n z) 0 xs) i z ≡ get_or xs i z
padded {A} n z xs h i = rw (sets-eq xs (replicate n z) 0 (omega (arith, length-replicate n z))) (by (dec_le (length xs) i))
  where
    rest : List A
    rest = drop (0 + length xs) (replicate n z)

    by : Dec (length xs ≤ i) → get_or (xs ++ rest) i z ≡ get_or xs i z
    by (no k) = get_or-append xs rest z i (omega arith)
    by (yes k) =
        let e : length xs + (i - length xs) ≡ i = omega arith in
        (rw e at (get_or-append-add xs rest (i - length xs) z)) ∙ get_or-drop (0 + length xs) (replicate n z) (i - length xs) z ∙ same_everywhere n z _ ∙ sym (get_or-eq_default xs z {n = i} k)
