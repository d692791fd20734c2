-- A record in the making: one part after another, and the room for each. Assumes nothing.
use Prim.Native.Nat.{ℕ, ◌+◌, ◌≤◌, ◌<◌}
use mathlib.Core.Path.{◌≡◌, refl, sym, ◌∙◌, ap}
use mathlib.Core.List.{List, [], ◌++◌}
use native.Mathlib.Omega.{arith}
use native.Mathlib.Nat.{add-zero, add_assoc}
use native.Mathlib.Numerals.{add-one}
use lib.ListN.{length, drop, get_or, length-append, drop_of_length-le}
use lib.Seq.{drop-cons}
use Rattle.number.specs.Read.{write_many}
use Rattle.number.specs.Inner.{Room}
use Rattle.number.proofs.Writing.{sets_append}
use Rattle.job_writer.specs.Encoding.{appended}
use Rattle.job_writer.specs.declared.encode.Encoded.{Encoded}

pub join : (e : Encoded) (a b : List ℕ) {e₁ e₂ : Encoded} → e₁ ≡ appended e a → e₂ ≡ appended e₁ b → e₂ ≡ appended e (a ++ b)
join e a b p q = q ∙ ap (λ (x : Encoded). appended x b) p ∙ sym (rw (sets_append e.bytes e.at a b, length-append a b, ← add_assoc))

pub append_none : (e : Encoded) → appended e [] ≡ e
append_none e = rw add-zero

pub first : (a b : List ℕ) (at : ℕ) → at + length (a ++ b) ≤ 520 → Room a at 520
first a b at h = record { ends = omega (arith, length-append a b) }

pub then : (e : Encoded) (a b : List ℕ) {e₁ : Encoded} → e₁ ≡ appended e a → e.at + length (a ++ b) ≤ 520 → Room b e₁.at 520
then e a b p h = record { ends = omega (arith, length-append a b, ap (λ (x : Encoded). x.at) p) }

-- a loop that appends values one after the other, from e to out: those from i on are left
pub record Run {A : Type 0} (w : A → List ℕ) (xs : List A) (e out : Encoded) (i : ℕ) : Type 0 where
  pub same : appended out (write_many w (drop i xs)) ≡ appended e (write_many w xs)

module _ {A : Type 0} (w : A → List ℕ) (xs : List A) (e out : Encoded) (i : ℕ) where
  -- the value at i is the first of those that are left
  next : (z : A) → i < length xs → write_many w (drop i xs) ≡ w (get_or xs i z) ++ write_many w (drop (i + 1) xs)
  unfolding write_many
  next z l = rw (drop-cons xs i z l, add-one)

  none : length xs ≤ i → write_many w (drop i xs) ≡ []
  unfolding write_many
  none h = rw (drop_of_length-le xs {i = i} h)

  pub run_room : (z : A) → i < length xs → e.at + length (write_many w xs) ≤ 520 → Run w xs e out i → Room (w (get_or xs i z)) out.at 520
  run_room z l f r =
      let s : out.at + length (write_many w (drop i xs)) ≡ e.at + length (write_many w xs) = ap (λ (x : Encoded). x.at) r.same in
      first (w (get_or xs i z)) (write_many w (drop (i + 1) xs)) out.at (omega (arith, ap length (next z l)))

  pub run_next : (z : A) → i < length xs → {o : Encoded} → o ≡ appended out (w (get_or xs i z)) → Run w xs e out i → Run w xs e o (i + 1)
  run_next z l p r = record {
    same = join out (w (get_or xs i z)) (write_many w (drop (i + 1) xs)) p refl ∙ ap (appended out) (sym (next z l)) ∙ r.same;
  }

  pub run_end : length xs ≤ i → Run w xs e out i → out ≡ appended e (write_many w xs)
  run_end h r = sym (append_none out) ∙ ap (appended out) (sym (none h)) ∙ r.same
