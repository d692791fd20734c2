-- The runs after a rule was carried out at the first n stations: each of them has its own cell changed, every other entry and each length stays.
use Prim.Native.Nat.{ℕ, zero, suc, ◌+◌, ◌≤◌, ◌<◌}
use mathlib.Core.Path.{◌≡◌, refl, sym, ◌∙◌, ap, subst}
use mathlib.Core.Logic.{⊎_elim}
use native.Mathlib.Nat.{eq-or-lt_of_le, le_of_suc-le-suc, not-suc-le-zero}
use native.Mathlib.Numerals.{add-one}
use native.Mathlib.Omega.{arith}
use lib.IntN.{pos}
use lib.ListN.{length, length-set}
use lib.Seq.{get_or-set_same, get_or-set_other, set-get_or}
use Rattle.reaches.specs.declared.Cell.{Cell}
use Rattle.reaches.specs.Cells.{Reaches, cell_at, store_cell, at_stations}
use Rattle.reaches.specs.Inner.{Room, CellLent}

-- a cell stored where it stands
pub store_same : (i : ℕ) (r : Reaches) → store_cell i (cell_at i r) r ≡ r
store_same i r =
    let left = set-get_or r.left i (pos 0) in
    let right = set-get_or r.right i (pos 0) in
    let marks = set-get_or r.marks i 0 in
    λ j. record { left = left j; right = right j; marks = marks j }

-- the loop over stations: none yet, and one more
module _ (f : ℕ → Cell → Cell) (r : Reaches) where
  pub none_yet : at_stations f 0 r ≡ r
  unfolding at_stations
  none_yet = refl

  pub one_more : (i : ℕ) (s : Reaches) (c : Cell) → s ≡ at_stations f i r → c ≡ f i (cell_at i s) → store_cell i c s ≡ at_stations f (i + 1) r
  unfolding at_stations
  one_more i s c p q = rw (add-one i, ← p, ← q)

  pub one_more_same : (i : ℕ) (s : Reaches) → s ≡ at_stations f i r → cell_at i s ≡ f i (cell_at i s) → s ≡ at_stations f (i + 1) r
  one_more_same i s p q = sym (store_same i s) ∙ one_more i s (cell_at i s) p q

-- lengths stay
pub record SameLengths (a b : Reaches) : Type 0 where
  pub left : length a.left ≡ length b.left
  pub right : length a.right ≡ length b.right
  pub marks : length a.marks ≡ length b.marks

pub stations_lengths : (f : ℕ → Cell → Cell) (n : ℕ) (r : Reaches) → SameLengths (at_stations f n r) r
unfolding at_stations
stations_lengths f zero r = record { left = refl; right = refl; marks = refl }
stations_lengths f (suc n) r =
    let h = stations_lengths f n r in
    record { left = simp length-set h.left; right = simp length-set h.right; marks = simp length-set h.marks }

pub same_room : {n : ℕ} {a b : Reaches} → SameLengths a b → Room n b → Room n a
same_room s h = record { left = rw s.left h.left; right = rw s.right h.right; marks = rw s.marks h.marks }

pub lent_at : {n i : ℕ} {r : Reaches} → i < n → Room n r → CellLent i r
lent_at h r = record { left = omega (arith, r.left); right = omega (arith, r.right); marks = omega (arith, r.marks) }

pub lengths_of_lem : (f : ℕ → Cell → Cell) (n : ℕ) (r : Reaches) {s : Reaches} → s ≡ at_stations f n r → SameLengths s r
lengths_of_lem f n r e = subst (λ (s : Reaches). SameLengths s r) (sym e) (stations_lengths f n r)

other_cell : (i n : ℕ) (c : Cell) (s : Reaches) → (i ≡ n → ⊥) → cell_at i (store_cell n c s) ≡ cell_at i s
other_cell i n c s h =
    rw (get_or-set_other s.left n i c.left (pos 0) h, get_or-set_other s.right n i c.right (pos 0) h, get_or-set_other s.marks n i c.mark 0 h)

stored_cell : (n : ℕ) (c : Cell) (s : Reaches) → Room (suc n) s → cell_at n (store_cell n c s) ≡ c
stored_cell n c s h =
    rw (get_or-set_same s.left n c.left (pos 0) h.left, get_or-set_same s.right n c.right (pos 0) h.right, get_or-set_same s.marks n c.mark 0 h.marks)

fewer : {n : ℕ} {r : Reaches} → Room (suc n) r → Room n r
fewer h = record { left = omega (arith, h.left); right = omega (arith, h.right); marks = omega (arith, h.marks) }

module _ (f : ℕ → Cell → Cell) (r : Reaches) where
  -- at or past n
  pub cell_past : (n i : ℕ) → n ≤ i → cell_at i (at_stations f n r) ≡ cell_at i r
  unfolding at_stations
  cell_past zero i h = refl
  cell_past (suc n) i h = other_cell i n _ (at_stations f n r) (λ e. omega arith) ∙ cell_past n i (omega arith)

  -- below n: the rule, of the old cell
  pub cell_below : (n i : ℕ) → i < n → Room n r → cell_at i (at_stations f n r) ≡ f i (cell_at i r)
  unfolding at_stations
  cell_below zero i h m = absurd (not-suc-le-zero h)
  cell_below (suc n) i h m =
      ⊎_elim
      (λ (e : i ≡ n). rw e (stored_cell n _ (at_stations f n r) (same_room (stations_lengths f n r) m) ∙ ap (f n) (cell_past n n (omega arith))))
      (λ (l : i < n). other_cell i n _ (at_stations f n r) (λ e. omega arith) ∙ cell_below n i l (fewer m))
      (eq-or-lt_of_le (le_of_suc-le-suc h))

-- a rule may be replaced by one that gives the same cells
pub same_rule : (f g : ℕ → Cell → Cell) (n : ℕ) (r : Reaches) → ((i : ℕ) (c : Cell) → i < n → f i c ≡ g i c) → at_stations f n r ≡ at_stations g n r
unfolding at_stations
same_rule f g zero r h = refl
same_rule f g (suc n) r h =
    let e = same_rule f g n r (λ i c l. h i c (omega arith)) in
    ap (λ (s : Reaches). store_cell n (f n (cell_at n s)) s) e ∙ ap (λ (c : Cell). store_cell n c (at_stations g n r)) (h n (cell_at n (at_stations g n r)) (omega arith))
