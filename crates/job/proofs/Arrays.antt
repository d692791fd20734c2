-- An array of structs has its length, which the logic says of the list of its elements' values. Assumes nothing.
use Prim.Native.Nat.{ℕ}
use mathlib.Core.Path.{◌≡◌, sym, ◌∙◌}
use mathlib.Core.List.{List, map}
use lib.ListN.{length, length-map}

pub unmapped : {A B : Type 0} (f : A → B) (xs : List A) (n : ℕ) → length (map f xs) ≡ n → length xs ≡ n
unmapped f xs n e = sym (length-map xs f) ∙ e
