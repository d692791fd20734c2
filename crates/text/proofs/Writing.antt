-- Texts written byte by byte, from the front and from the back. Assumes nothing.
use Prim.Native.Nat.{ℕ, zero, suc, ◌+◌, ◌-◌, ◌/◌, ◌%◌, ◌<◌, ◌≤◌}
use mathlib.Core.Path.{◌≡◌, refl, sym, ◌∙◌, ap}
use mathlib.Core.List.{List, [], ◌∷◌, ◌++◌}
use native.Mathlib.Omega.{arith}
use native.Mathlib.Nat.{add-zero}
use borrow.Rule.Slice.PartMut.{put_mid}
use mathlib.Core.List.{append_assoc}
use lib.ListN.{length, set, drop, get_or, length-set, drop_of_length-le}
use lib.Seq.{sets, sets-eq, set_comm, drop-cons, drop-drop}
use Rattle.text.specs.Decimal.{digit, digits}
use Rattle.text.proofs.DecimalLaws.{digits_length}

-- the last of a list can be stored before the others
pub sets_last : {A : Type 0} (l : List A) (i : ℕ) (a : List A) (x : A) → sets l i (a ++ (x ∷ [])) ≡ sets (set l (i + length a) x) i a
sets_last l i [] x = rw add-zero
sets_last l i (y ∷ a) x =
    sets_last (set l i y) (suc i) a x
    ∙ ap (λ (m : List _). sets m (suc i) a) (ap (λ (j : ℕ). set (set l i y) j x) (omega arith) ∙ set_comm l i (i + suc (length a)) y x (λ e. omega arith))

-- the bytes from i on are left to copy
pub record Copying (d₀ : List ℕ) (at : ℕ) (bytes d : List ℕ) (i : ℕ) : Type 0 where
  pub same : sets d (at + i) (drop i bytes) ≡ sets d₀ at bytes
  pub long : length d ≡ length d₀

module _ (d₀ : List ℕ) (at : ℕ) (bytes : List ℕ) where
  pub copy_start : Copying d₀ at bytes d₀ 0
  copy_start = record { same = rw add-zero; long = refl }

  pub copy_next : (d : List ℕ) (i : ℕ) → i < length bytes → Copying d₀ at bytes d i → Copying d₀ at bytes (set d (at + i) (get_or bytes i 0)) (i + 1)
  copy_next d i h c = record {
    same =
        let e : at + (i + 1) ≡ suc (at + i) = omega arith in
        let f : i + 1 ≡ suc i = omega arith in
        rw (e, f) (rw (drop-cons bytes i 0 h) at c.same);
    long = length-set d (at + i) (get_or bytes i 0) ∙ c.long;
  }

  pub copy_end : (d : List ℕ) (i : ℕ) → length bytes ≤ i → Copying d₀ at bytes d i → d ≡ sets d₀ at bytes
  copy_end d i h c = rw (drop_of_length-le bytes {i = i} h) at c.same

-- a text written into the part of a run from a position on, as a slice of the run holds it afterwards
pub copied : (run : List ℕ) (at : ℕ) (bytes : List ℕ) → at + length bytes ≤ length run → put_mid at (at + length bytes - at) run bytes ≡ sets run at bytes
copied run at bytes h =
    let e : at + length bytes - at ≡ length bytes = omega arith in
    rw (e, sets-eq bytes run at h, drop-drop (length bytes) at run, append_assoc)

-- the first `left` digits are left to write, those of y
pub record Filling (d₀ : List ℕ) (at count n : ℕ) (d : List ℕ) (left y : ℕ) : Type 0 where
  pub same : sets d at (digits left y) ≡ sets d₀ at (digits count n)
  pub long : length d ≡ length d₀
  pub most : left ≤ count
  pub room : at + count ≤ length d₀

module _ (d₀ : List ℕ) (at count n : ℕ) where
  pub fill_start : at + length (digits count n) ≤ length d₀ → Filling d₀ at count n d₀ (at + count - at) n
  fill_start h = let e : at + count - at ≡ count = omega arith in rw e (record { same = refl; long = refl; most = omega arith; room = omega (arith, digits_length count n) })

  one_less : (d : List ℕ) (left place y : ℕ) → place ≡ at + left → Filling d₀ at count n d (suc left) y → Filling d₀ at count n (set d place (48 + y % 10)) left (y / 10)
  unfolding digits
  one_less d left place y e f = record {
    same = rw e (sym (sets_last d at (digits left (y / 10)) (digit (y % 10)) ∙ ap (λ (j : ℕ). sets (set d (at + j) (digit (y % 10))) at (digits left (y / 10))) (digits_length left (y / 10))) ∙ f.same);
    long = length-set d place (48 + y % 10) ∙ f.long;
    most = omega (arith, f.most);
    room = f.room;
  }

  -- the digit before a place is written
  pub fill_next : (d : List ℕ) (place y : ℕ) → at < place → Filling d₀ at count n d (place - at) y → Filling d₀ at count n (set d (place - 1) (48 + y % 10)) (place - 1 - at) (y / 10)
  fill_next d place y h f =
      let e : place - at ≡ suc (place - 1 - at) = omega arith in
      one_less d (place - 1 - at) (place - 1) y (omega arith) (rw e at f)

  pub fill_end : (d : List ℕ) (left y : ℕ) → left ≤ 0 → Filling d₀ at count n d left y → d ≡ sets d₀ at (digits count n)
  unfolding digits
  fill_end d zero y h f = f.same
  fill_end d (suc left) y h f = absurd (omega arith)
