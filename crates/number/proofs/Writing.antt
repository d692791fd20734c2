-- Bytes written into a run one part after another: what is left to write, from the first part to the last. Assumes nothing.
use Prim.Native.Nat.{ℕ, zero, suc, ◌+◌, ◌^◌, ◌%◌, ◌/◌, ◌<◌, ◌≤◌}
use mathlib.Core.Path.{◌≡◌, refl, sym, ◌∙◌, ap}
use mathlib.Core.List.{List, [], ◌∷◌, ◌++◌}
use native.Mathlib.Omega.{arith}
use native.Mathlib.Numerals.{add-one}
use native.Mathlib.Nat.{pow-suc, add-zero}
use lib.ListN.{length, set, length-set}
use lib.Seq.{sets}
use lib.Dec.{ltb}
use borrow.Author.Tests.{le-ltb}
use Rattle.number.specs.Number.{write_groups, write_number}
use Rattle.number.proofs.GroupLaws.{pick_by}
use Rattle.number.proofs.NumberCodec.{write_last}

-- one list after another
pub sets_append : {A : Type 0} (l : List A) (i : ℕ) (a b : List A) → sets l i (a ++ b) ≡ sets (sets l i a) (i + length a) b
sets_append l i [] b = rw add-zero
sets_append l i (x ∷ a) b = sets_append (set l i x) (suc i) a b ∙ ap (λ (j : ℕ). sets (sets (set l i x) (suc i) a) j b) (omega arith)

-- of the bytes `all`, at place at₀ of d₀, the part `rest` is left to write at place `at` of d
pub record Pending {A : Type 0} (d₀ : List A) (at₀ : ℕ) (all d : List A) (at : ℕ) (rest : List A) : Type 0 where
  pub same : sets d at rest ≡ sets d₀ at₀ all
  pub ends : at + length rest ≡ at₀ + length all
  pub long : length d ≡ length d₀

module _ {A : Type 0} (d₀ : List A) (at₀ : ℕ) (all : List A) where
  pub begin : Pending d₀ at₀ all d₀ at₀ all
  begin = record { same = refl; ends = refl; long = refl }

  -- one byte is written
  pub wrote : (d : List A) (at : ℕ) (rest : List A) (b : A) (more : List A) → rest ≡ b ∷ more → Pending d₀ at₀ all d at rest → Pending d₀ at₀ all (set d at b) (at + 1) more
  wrote d at rest b more r p = record {
    same = rw add-one (rw r at p.same);
    ends = omega (arith, ap length r, p.ends);
    long = length-set d at b ∙ p.long;
  }

  pub room : (d : List A) (at : ℕ) (rest : List A) → 1 ≤ length rest → at₀ + length all ≤ length d₀ → Pending d₀ at₀ all d at rest → at < length d
  room d at rest l h p = omega (arith, p.ends, p.long)

  pub finish : (d : List A) (at : ℕ) (rest : List A) → rest ≡ [] → Pending d₀ at₀ all d at rest → (at ≡ at₀ + length all) × (d ≡ sets d₀ at₀ all)
  finish d at rest r p = (omega (arith, ap length r, p.ends), ap (sets d at) (sym r) ∙ p.same)

-- the groups of y are left, of the groups of x
pub record Left (d₀ : List ℕ) (at x : ℕ) (d : List ℕ) (i y : ℕ) : Type 0 where
  pub more : ℕ
  pub fits : y < 128 ^ suc more
  pub pending : Pending d₀ at (write_number x) d i (write_groups more y)

some_left : (k y : ℕ) → 1 ≤ length (write_groups k y)
unfolding write_groups
some_left zero y = omega arith
some_left (suc k) y = pick_by (λ l. 1 ≤ length l) (ltb y 128) {x = y ∷ []} {y = (y % 128 + 128) ∷ write_groups k (y / 128)} (λ t. omega arith) (λ t. omega arith)

module _ (d₀ : List ℕ) (at x : ℕ) where
  pub start : x < 2 ^ 32 → Left d₀ at x d₀ at x
  unfolding write_number
  start h = record { more = 4; fits = omega arith; pending = begin d₀ at (write_number x) }

  pub turn : (d : List ℕ) (i y : ℕ) → 128 ≤ y → Left d₀ at x d i y → Left d₀ at x (set d i (y % 128 + 128)) (i + 1) (y / 128)
  turn d i y h l = go l.more l.fits l.pending
    where
      go : (k : ℕ) → y < 128 ^ suc k → Pending d₀ at (write_number x) d i (write_groups k y) → Left d₀ at x (set d i (y % 128 + 128)) (i + 1) (y / 128)
      go zero f p = absurd (omega arith)
      go (suc k) f p =
          let w : write_groups (suc k) y ≡ (y % 128 + 128) ∷ write_groups k (y / 128) = unfold write_groups in (rw (le-ltb y 128 h)) in
          record { more = k; fits = omega (arith, pow-suc 128 (suc k)); pending = wrote d₀ at (write_number x) d i (write_groups (suc k) y) _ _ w p }

  pub inside : (d : List ℕ) (i y : ℕ) → at + length (write_number x) ≤ length d₀ → Left d₀ at x d i y → i < length d
  inside d i y r l = room d₀ at (write_number x) d i (write_groups l.more y) (some_left l.more y) r l.pending

  pub last : (d : List ℕ) (i y : ℕ) → y < 128 → Left d₀ at x d i y → (i + 1 ≡ at + length (write_number x)) × (set d i y ≡ sets d₀ at (write_number x))
  last d i y h l =
      let w : write_groups l.more y ≡ y ∷ [] = write_last l.more y h in
      finish d₀ at (write_number x) (set d i y) (i + 1) [] refl (wrote d₀ at (write_number x) d i (write_groups l.more y) y [] w l.pending)
