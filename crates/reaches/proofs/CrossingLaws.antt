-- A station that no point crosses keeps its cell; two points' crossings commute; the bits above those of the points stay.
use Prim.Native.Nat.{ℕ, zero, suc, ◌+◌, ◌≤◌, ◌<◌}
use mathlib.Core.Path.{◌≡◌, refl, sym, ◌∙◌, ap}
use mathlib.Core.Bool.{Bool, true, false, ◌||◌}
use mathlib.Core.List.{List, [], ◌∷◌}
use native.Mathlib.Nat.{add-zero, le_of_suc-le-suc, not-suc-le-zero}
use native.Mathlib.Numerals.{add-one}
use native.Mathlib.Omega.{arith}
use lib.ListN.{length, drop, get_or, drop_of_length-le}
use lib.Seq.{drop-cons}
use lib.IntN.{ℤ, pos}
use lib.Signed.{le_z, lt_z}
use Rattle.std.proofs.lemmas.Bool.{or_parts}
use Rattle.number.specs.Read.{pick}
use Rattle.plane.specs.declared.Vec2.{Vec2}
use Rattle.marks.specs.Marks.{has_bit, with_bit, bits_from}
use Rattle.marks.proofs.Bits.{own_bit, other_bit, bits_commute, above_bits}
use Rattle.path.specs.declared.Station.{Station}
use Rattle.walk.specs.Rig.{zero_vector}
use Rattle.reaches.specs.declared.Cell.{Cell}
use Rattle.reaches.specs.Crossing.{ahead_of, reach_of, crosses, smaller, greater, crossed_by, crossed_from, some_crosses, crossed_station}
use Rattle.reaches.specs.Cells.{Reaches, cell_at, store_cell}
use Rattle.reaches.proofs.CellLaws.{store_same}
use Rattle.reaches.proofs.LeastGreatest.{smaller_any_order, greater_any_order}

-- a point crosses from below 0, and only from there
module _ (s : Station) (old new : Vec2) where
  pub crosses_from_below : lt_z (ahead_of s old) (pos 0) ≡ true → le_z (pos 0) (ahead_of s new) ≡ crosses s old new
  unfolding crosses
  crosses_from_below e = rw e

  pub past_already : lt_z (ahead_of s old) (pos 0) ≡ false → false ≡ crosses s old new
  unfolding crosses
  past_already e = rw e

-- a point that does not cross, and points none of which does
pub not_crossed : (p : ℕ) (s : Station) (old new : Vec2) (c : Cell) → crosses s old new ≡ false → crossed_by p s old new c ≡ c
unfolding crossed_by
not_crossed p s old new c e = rw e

pub none_crosses : (p : ℕ) (s : Station) (olds news : List Vec2) (c : Cell) → some_crosses s olds news ≡ false → crossed_from p s olds news c ≡ c
unfolding some_crosses crossed_from
none_crosses p s [] news c e = refl
none_crosses p s (old ∷ olds) [] c e = refl
none_crosses p s (old ∷ olds) (new ∷ news) c e =
    let n = or_parts (crosses s old new) (some_crosses s olds news) e in
    rw (not_crossed p s old new c n.0) (none_crosses (p + 1) s olds news c n.1)

-- so the runs are as they should be
pub left_so : (i : ℕ) (s : Station) (olds news : List Vec2) (r : Reaches) → some_crosses s olds news ≡ false → r ≡ crossed_station i s olds news r
left_so i s olds news r f = sym (ap (λ (x : Cell). store_cell i x r) (none_crosses 0 s olds news (cell_at i r) f) ∙ store_same i r)

-- what a crossing with the reaches a and b makes of a cell
abbrev pub entered : ℕ → ℤ → ℤ → Cell → Cell
entered p a b c = record { left = smaller c.left (smaller a b); right = greater c.right (greater a b); mark = with_bit p c.mark }

pub crossed : (p : ℕ) (s : Station) (old new : Vec2) (c : Cell) → crosses s old new ≡ true → entered p (reach_of s old) (reach_of s new) c ≡ crossed_by p s old new c
unfolding crossed_by
crossed p s old new c e = rw e

entered_commute : (p q : ℕ) → (p ≡ q → ⊥) → (a b a' b' : ℤ) (c : Cell) → entered q a' b' (entered p a b c) ≡ entered p a b (entered q a' b' c)
entered_commute p q d a b a' b' c =
    let l = smaller_any_order c.left (smaller a b) (smaller a' b') in
    let r = greater_any_order c.right (greater a b) (greater a' b') in
    let m = bits_commute p q c.mark d in
    λ i. record { left = l i; right = r i; mark = m i }

-- two rules that commute do so under tests of their own
tests_commute : (t u : Bool) (f g : Cell → Cell) (c : Cell) → g (f c) ≡ f (g c) → pick u (g (pick t (f c) c)) (pick t (f c) c) ≡ pick t (f (pick u (g c) c)) (pick u (g c) c)
tests_commute true true f g c e = e
tests_commute true false f g c e = refl
tests_commute false true f g c e = refl
tests_commute false false f g c e = refl

pub crossings_commute : (p q : ℕ) → (p ≡ q → ⊥) → (s : Station) (old new old' new' : Vec2) (c : Cell)
    → crossed_by q s old' new' (crossed_by p s old new c) ≡ crossed_by p s old new (crossed_by q s old' new' c)
unfolding crossed_by
crossings_commute p q d s old new old' new' c =
    tests_commute (crosses s old new) (crosses s old' new') (entered p (reach_of s old) (reach_of s new)) (entered q (reach_of s old') (reach_of s new')) c
    (entered_commute p q d (reach_of s old) (reach_of s new) (reach_of s old') (reach_of s new') c)

-- "no step touches the bits above them" (02, N3): none from number n on, where the points' numbers lie below n
crossed_above : (n p : ℕ) (s : Station) (old new : Vec2) (c : Cell) → p < n → bits_from n (crossed_by p s old new c).mark ≡ bits_from n c.mark
unfolding crossed_by
crossed_above n p s old new c h = by (crosses s old new)
  where
    by : (t : Bool) → bits_from n (pick t (entered p (reach_of s old) (reach_of s new) c) c).mark ≡ bits_from n c.mark
    by true = above_bits p c.mark n h
    by false = refl

pub step_above : (n p : ℕ) (s : Station) (olds news : List Vec2) (c : Cell) → p + length olds ≤ n → bits_from n (crossed_from p s olds news c).mark ≡ bits_from n c.mark
unfolding crossed_from
step_above n p s [] news c h = refl
step_above n p s (old ∷ olds) [] c h = refl
step_above n p s (old ∷ olds) (new ∷ news) c h = step_above n (p + 1) s olds news (crossed_by p s old new c) (omega arith) ∙ crossed_above n p s old new c (omega arith)

-- the points from number p on: the next of them, and none left
next_point : (points : List Vec2) (p : ℕ) → p < length points → drop p points ≡ get_or points p zero_vector ∷ drop (p + 1) points
next_point points p h = rw (drop-cons points p zero_vector h, add-one)

module _ (p : ℕ) (s : Station) (olds news : List Vec2) where
  pub crossed_next : (c : Cell) → p < length olds → p < length news
      → crossed_from p s (drop p olds) (drop p news) c ≡ crossed_from (p + 1) s (drop (p + 1) olds) (drop (p + 1) news) (crossed_by p s (get_or olds p zero_vector) (get_or news p zero_vector) c)
  unfolding crossed_from
  crossed_next c h k = rw (next_point olds p h, next_point news p k)

  pub crossed_end : (c : Cell) → length olds ≤ p → crossed_from p s (drop p olds) (drop p news) c ≡ c
  unfolding crossed_from
  crossed_end c h = rw (drop_of_length-le olds {i = p} h)

  pub some_next : p < length olds → p < length news
      → some_crosses s (drop p olds) (drop p news) ≡ (crosses s (get_or olds p zero_vector) (get_or news p zero_vector) || some_crosses s (drop (p + 1) olds) (drop (p + 1) news))
  unfolding some_crosses
  some_next h k = rw (next_point olds p h, next_point news p k)

  pub some_end : length olds ≤ p → some_crosses s (drop p olds) (drop p news) ≡ false
  unfolding some_crosses
  some_end h = rw (drop_of_length-le olds {i = p} h)

-- which bits a step sets: those of the points that cross
module _ (p : ℕ) (s : Station) (old new : Vec2) (c : Cell) where
  pub crossed_own_bit : has_bit p (crossed_by p s old new c).mark ≡ (crosses s old new || has_bit p c.mark)
  unfolding crossed_by
  crossed_own_bit = by (crosses s old new)
    where
      by : (t : Bool) → has_bit p (pick t (entered p (reach_of s old) (reach_of s new) c) c).mark ≡ (t || has_bit p c.mark)
      by true = own_bit p c.mark
      by false = refl

  pub crossed_other_bit : (q : ℕ) → (p ≡ q → ⊥) → has_bit q (crossed_by p s old new c).mark ≡ has_bit q c.mark
  unfolding crossed_by
  crossed_other_bit q d = by (crosses s old new)
    where
      by : (t : Bool) → has_bit q (pick t (entered p (reach_of s old) (reach_of s new) c) c).mark ≡ has_bit q c.mark
      by true = other_bit p q c.mark d
      by false = refl

-- bits below the first point's stay
lower_bits : (p : ℕ) (s : Station) (olds news : List Vec2) (c : Cell) (q : ℕ) → q < p → has_bit q (crossed_from p s olds news c).mark ≡ has_bit q c.mark
unfolding crossed_from
lower_bits p s [] news c q h = refl
lower_bits p s (old ∷ olds) [] c q h = refl
lower_bits p s (old ∷ olds) (new ∷ news) c q h =
    lower_bits (p + 1) s olds news (crossed_by p s old new c) q (omega arith) ∙ crossed_other_bit p s old new c q (λ e. omega arith)

-- point p + k of a step that begins with point p
pub step_bit : (p : ℕ) (s : Station) (olds news : List Vec2) (c : Cell) (k : ℕ) → k < length olds → k < length news
    → has_bit (p + k) (crossed_from p s olds news c).mark ≡ (crosses s (get_or olds k zero_vector) (get_or news k zero_vector) || has_bit (p + k) c.mark)
unfolding crossed_from
step_bit p s [] news c k h l = absurd (not-suc-le-zero h)
step_bit p s (old ∷ olds) [] c k h l = absurd (not-suc-le-zero l)
step_bit p s (old ∷ olds) (new ∷ news) c zero h l =
    rw (add-zero p) (lower_bits (p + 1) s olds news (crossed_by p s old new c) p (omega arith) ∙ crossed_own_bit p s old new c)
step_bit p s (old ∷ olds) (new ∷ news) c (suc k) h l =
    let e : p + suc k ≡ p + 1 + k = omega arith in
    rw e
    (step_bit (p + 1) s olds news (crossed_by p s old new c) k (le_of_suc-le-suc h) (le_of_suc-le-suc l)
    ∙ ap (λ (t : Bool). crosses s (get_or olds k zero_vector) (get_or news k zero_vector) || t) (crossed_other_bit p s old new c (p + 1 + k) (λ d. omega arith)))
