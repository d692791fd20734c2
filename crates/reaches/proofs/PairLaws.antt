-- The points of a rig two by two, left and right: how far pairs spread, and whether any crosses a station.
use Prim.Native.Nat.{ℕ, zero, suc, ◌+◌, ◌*◌, ◌/◌, ◌≤◌, ◌<◌}
use mathlib.Core.Path.{◌≡◌, refl, sym, ◌∙◌, ap, subst, subst₂}
use mathlib.Core.Bool.{Bool, true, false, ◌||◌}
use mathlib.Core.List.{List, []}
use native.Mathlib.Nat.{le_of_suc-le-suc}
use native.Mathlib.Omega.{arith}
use lib.Dec.{lit<}
use lib.ListN.{length, take, drop, get_or}
use lib.Seq.{drop-drop, get_or-take, get_or-drop}
use Rattle.std.specs.Simd.{first_chunks}
use lib.IntN.{ℤ, pos}
use lib.Signed.{◌≤ℤ◌}
use Rattle.exact.specs.Size.{Within}
use Rattle.exact.proofs.Order.{≤ℤ-trans}
use Rattle.plane.specs.declared.Vec2.{Vec2}
use Rattle.path.specs.declared.Station.{Station}
use Rattle.walk.specs.Rig.{zero_vector}
use Rattle.reaches.specs.Crossing.{greater, crosses, some_crosses}
use Rattle.reaches.specs.Inner.{Movable}
use Rattle.reaches.specs.Far.{apart, PairSpread, left_of, right_of, PairMoves, PairsMove, pair_crosses}
use Rattle.reaches.proofs.LeastGreatest.{sorted}
use Rattle.reaches.proofs.CrossingLaws.{some_next, some_end}
use Rattle.reaches.proofs.FarLaws.{under, greater_sized}

module _ (olds news : List Vec2) where
  abbrev at : ℕ → Vec2
  at p = get_or olds p zero_vector

  abbrev to : ℕ → Vec2
  to p = get_or news p zero_vector

  pub no_pairs : PairSpread 0 olds news (pos 0)
  no_pairs = record { new = λ k h. absurd (omega arith); old_right = λ k h. absurd (omega arith); new_right = λ k h. absurd (omega arith); size = record { size = omega arith } }

  -- one pair more
  pub pairs_next : (n : ℕ) (r a b c : ℤ) → PairSpread n olds news r
      → a ≡ apart (at (2 * n)) (to (2 * n)) → b ≡ apart (at (2 * n)) (at (2 * n + 1)) → c ≡ apart (at (2 * n)) (to (2 * n + 1))
      → Within 640000000 a → Within 640000000 b → Within 640000000 c → PairSpread (n + 1) olds news (greater r (greater a (greater b c)))
  pairs_next n r a b c u p q t x y z =
      let all = greater r (greater a (greater b c)) in
      let o = sorted r (greater a (greater b c)) in
      let i = sorted a (greater b c) in
      let j = sorted b c in
      let right : greater b c ≤ℤ all = ≤ℤ-trans i.most_second o.most_second in
      record {
        new = under (λ k. apart (at (2 * k)) (to (2 * k))) n r all u.new o.most_first (subst (λ (w : ℤ). w ≤ℤ all) p (≤ℤ-trans i.most_first o.most_second));
        old_right = under (λ k. apart (at (2 * k)) (at (2 * k + 1))) n r all u.old_right o.most_first (subst (λ (w : ℤ). w ≤ℤ all) q (≤ℤ-trans j.most_first right));
        new_right = under (λ k. apart (at (2 * k)) (to (2 * k + 1))) n r all u.new_right o.most_first (subst (λ (w : ℤ). w ≤ℤ all) t (≤ℤ-trans j.most_second right));
        size = greater_sized r (greater a (greater b c)) u.size (greater_sized a (greater b c) x (greater_sized b c y z));
      }

-- whether any of the points from a pair on crosses
neither : (a b c : Bool) → (a || b) ≡ false → (a || (b || c)) ≡ c
neither true b c e = absurd (let z : ◌≡◌ {A = ℕ} 0 1 = cc in omega arith)
neither false true c e = absurd (let z : ◌≡◌ {A = ℕ} 0 1 = cc in omega arith)
neither false false c e = refl

one : (a b c : Bool) → (a || b) ≡ true → (a || (b || c)) ≡ true
one true b c e = refl
one false true c e = refl
one false false c e = absurd (let z : ◌≡◌ {A = ℕ} 0 1 = cc in omega arith)

module _ (k : ℕ) (s : Station) (olds news : List Vec2) where
  abbrev left_crosses : Bool
  left_crosses = crosses s (get_or olds (2 * k) zero_vector) (get_or news (2 * k) zero_vector)

  abbrev right_crosses : Bool
  right_crosses = crosses s (get_or olds (2 * k + 1) zero_vector) (get_or news (2 * k + 1) zero_vector)

  abbrev from : ℕ → Bool
  from p = some_crosses s (drop p olds) (drop p news)

  split : length olds ≡ length news → 2 * k + 1 < length olds → from (2 * k) ≡ (left_crosses || (right_crosses || from (2 * k + 1 + 1)))
  split e l =
      some_next (2 * k) s olds news (omega arith) (omega arith) ∙ ap (λ (t : Bool). left_crosses || t) (some_next (2 * k + 1) s olds news l (omega arith))

  pub pair_passed : length olds ≡ length news → 2 * k + 1 < length olds → (left_crosses || right_crosses) ≡ false → from (2 * (k + 1)) ≡ from (2 * k)
  pair_passed h l e =
      let q : 2 * (k + 1) ≡ 2 * k + 1 + 1 = omega arith in
      ap from q ∙ sym (split h l ∙ neither left_crosses right_crosses (from (2 * k + 1 + 1)) e)

  pub pair_met : length olds ≡ length news → 2 * k + 1 < length olds → (left_crosses || right_crosses) ≡ true → from (2 * k) ≡ true
  pair_met h l e = split h l ∙ one left_crosses right_crosses (from (2 * k + 1 + 1)) e

  pub pairs_end : length olds ≤ 2 * k → from (2 * k) ≡ false
  pairs_end h = some_end (2 * k) s olds news h

-- chunk k of two points is the points 2k and 2k + 1
chunk_at : (n k : ℕ) (points : List Vec2) → k < n → get_or (first_chunks 2 n points) k [] ≡ take 2 (drop (2 * k) points)
chunk_at zero k points h = absurd (omega arith)
chunk_at (suc n) zero points h = refl
chunk_at (suc n) (suc k) points h =
    let e : 2 + 2 * k ≡ 2 * suc k = omega arith in
    chunk_at n k (drop 2 points) (le_of_suc-le-suc h) ∙ ap (take 2) (drop-drop (2 * k) 2 points ∙ ap (λ (i : ℕ). drop i points) e)

pub chunks_counted : (n : ℕ) (points : List Vec2) → length (first_chunks 2 n points) ≡ n
chunks_counted zero points = refl
chunks_counted (suc n) points = ap suc (chunks_counted n (drop 2 points))

pub record IsPair (points : List Vec2) (k : ℕ) (pair : List Vec2) : Type 0 where
  pub left : left_of pair ≡ get_or points (2 * k) zero_vector
  pub right : right_of pair ≡ get_or points (2 * k + 1) zero_vector

pub is_pair : (n k : ℕ) (points pair : List Vec2) → k < n → pair ≡ get_or (first_chunks 2 n points) k [] → IsPair points k pair
is_pair n k points pair h e =
    let p = e ∙ chunk_at n k points h in
    let at : (i : ℕ) → i < 2 → get_or pair i zero_vector ≡ get_or points (2 * k + i) zero_vector = λ i l.
    ap (λ (q : List Vec2). get_or q i zero_vector) p ∙ get_or-take 2 (drop (2 * k) points) i zero_vector l ∙ get_or-drop (2 * k) points i zero_vector in
    let first : 2 * k + 0 ≡ 2 * k = omega arith in
    record { left = at 0 (lit< tt) ∙ ap (λ (i : ℕ). get_or points i zero_vector) first; right = at 1 (lit< tt) }

-- what is so of all points, of a pair of them
module _ {olds news : List Vec2} {k : ℕ} {old new : List Vec2} (o : IsPair olds k old) (w : IsPair news k new) where
  pub crosses_as : (s : Station) → pair_crosses s old new ≡ (crosses s (get_or olds (2 * k) zero_vector) (get_or news (2 * k) zero_vector) || crosses s (get_or olds (2 * k + 1) zero_vector) (get_or news (2 * k + 1) zero_vector))
  crosses_as s = λ i. crosses s (o.left i) (w.left i) || crosses s (o.right i) (w.right i)

  pub moves_as : (s : Station) (near : ℤ) → PairsMove s near olds news → k < length olds / 2 → PairMoves s near old new
  moves_as s near m h =
      let within : Vec2 → Vec2 → Type 0 = λ a b. apart a b ≤ℤ near in
      record {
        left = subst₂ (Movable s) (sym o.left) (sym w.left) (m.moves.move _ (omega (arith, h)));
        right = subst₂ (Movable s) (sym o.right) (sym w.right) (m.moves.move _ (omega (arith, h)));
        new_near = subst₂ within (sym o.left) (sym w.left) (m.pairs.new k h);
        old_right_near = subst₂ within (sym o.left) (sym o.right) (m.pairs.old_right k h);
        new_right_near = subst₂ within (sym o.left) (sym w.right) (m.pairs.new_right k h);
        size = m.pairs.size;
      }
