-- How many bytes a number takes, from a bound on it. Assumes nothing.
use Prim.Native.Nat.{ℕ, zero, suc, ◌+◌, ◌*◌, ◌^◌, ◌%◌, ◌/◌, ◌<◌, ◌≤◌}
use mathlib.Core.List.{List, [], ◌∷◌}
use native.Mathlib.Omega.{arith}
use native.Mathlib.Nat.{pow-suc}
use lib.Dec.{ltb}
use lib.ListN.{length, length-append}
use borrow.Author.Tests.{ltb-false}
use Rattle.number.specs.Read.{write_many}
use Rattle.number.specs.Number.{write_groups, write_number}
use Rattle.number.proofs.GroupLaws.{pick_by}

groups_width : (m k x : ℕ) → x < 128 ^ suc k → length (write_groups m x) ≤ suc k
unfolding write_groups
groups_width zero k x h = omega arith
groups_width (suc m) zero x h =
    pick_by (λ l. length l ≤ 1) (ltb x 128) {x = x ∷ []} {y = (x % 128 + 128) ∷ write_groups m (x / 128)}
    (λ t. omega arith) (λ t. absurd (omega (arith, ltb-false x 128 t)))
groups_width (suc m) (suc k) x h =
    pick_by (λ l. length l ≤ suc (suc k)) (ltb x 128) {x = x ∷ []} {y = (x % 128 + 128) ∷ write_groups m (x / 128)}
    (λ t. omega arith) (λ t. omega (arith, groups_width m k (x / 128) (omega (arith, pow-suc 128 (suc k)))))

pub number_width : (k x : ℕ) → x < 128 ^ suc k → length (write_number x) ≤ suc k
unfolding write_number
number_width k x h = groups_width 4 k x h

-- values in a row, each of at most m bytes
pub many_width : {A : Type 0} (w : A → List ℕ) (m : ℕ) (x : A) (xs : List A) → length (w x) ≤ m → length (write_many w xs) ≤ length xs * m → length (write_many w (x ∷ xs)) ≤ length (x ∷ xs) * m
unfolding write_many
many_width w m x xs h l = omega (arith, length-append (w x) (write_many w xs))
