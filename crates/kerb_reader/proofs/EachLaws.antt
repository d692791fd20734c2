-- What holds of each entry of a list, and of what would stand past its end.
use Prim.Native.Nat.{ℕ, zero, suc, ◌+◌}
use mathlib.Core.Path.{sym, subst}
use mathlib.Core.List.{List, [], ◌∷◌}
use lib.ListN.{get_or, set, take, drop, replicate}
use lib.Seq.{sets, get_or-drop}

module _ {A : Type 0} (P : A → Type 0) where
  abbrev pub Every : List A → Type 0
  Every [] = Unit {0}
  Every (x ∷ xs) = P x × Every xs

  abbrev pub Each : A → List A → Type 0
  Each z l = (i : ℕ) → P (get_or l i z)

  pub each_replicate : (n : ℕ) (z : A) → P z → Each z (replicate n z)
  each_replicate zero z h i = h
  each_replicate (suc n) z h zero = h
  each_replicate (suc n) z h (suc i) = each_replicate n z h i

  each_set : (l : List A) (k : ℕ) (x z : A) → Each z l → P x → Each z (set l k x)
  each_set [] k x z h p i = h i
  each_set (y ∷ l) zero x z h p zero = p
  each_set (y ∷ l) zero x z h p (suc i) = h (suc i)
  each_set (y ∷ l) (suc k) x z h p zero = h 0
  each_set (y ∷ l) (suc k) x z h p (suc i) = each_set l k x z (λ j. h (suc j)) p i

  pub each_sets : (l : List A) (k : ℕ) (xs : List A) (z : A) → Each z l → Every xs → Each z (sets l k xs)
  each_sets l k [] z h p = h
  each_sets l k (x ∷ xs) z h p = each_sets (set l k x) (suc k) xs z (each_set l k x z h p.0) p.1

  pub each_take : (n : ℕ) (l : List A) (z : A) → P z → Each z l → Each z (take n l)
  each_take zero l z p h i = p
  each_take (suc n) [] z p h i = p
  each_take (suc n) (x ∷ l) z p h zero = h 0
  each_take (suc n) (x ∷ l) z p h (suc i) = each_take n l z p (λ j. h (suc j)) i

  pub each_drop : (n : ℕ) (l : List A) (z : A) → Each z l → Each z (drop n l)
  each_drop n l z h i = subst P (sym (get_or-drop n l i z)) (h (n + i))

  pub each_cons : (x : A) (l : List A) (z : A) → P x → Each z l → Each z (x ∷ l)
  each_cons x l z p h zero = p
  each_cons x l z p h (suc i) = h i
