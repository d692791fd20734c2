-- The widest place: the loop over stations, what the test of 21 says, and that the answer is right.
use Prim.Native.Nat.{ℕ, zero, suc, ◌+◌, ◌<◌}
use mathlib.Core.Path.{◌≡◌, refl, sym, subst}
use mathlib.Core.Bool.{Bool, true, false, ◌&&◌}
use mathlib.Core.Logic.{⊎_elim}
use native.Mathlib.Nat.{eq-or-lt_of_le, le_of_suc-le-suc, not-suc-le-zero}
use native.Mathlib.Numerals.{add-one}
use native.Mathlib.Omega.{arith}
use borrow.Author.Tests.{leb-true}
use lib.Dec.{leb}
use lib.ListN.{length}
use lib.IntN.{ℤ}
use lib.Signed.{◌≤ℤ◌, ◌<ℤ◌, lt_z, lt_z_yes, ≤ℤ_refl, clash_ℤ}
use Rattle.std.proofs.lemmas.Bool.{and_parts}
use Rattle.exact.proofs.Order.{of_true, lt_z_false, lt_z_true-≤, ≤ℤ-trans}
use Rattle.std.specs.Prelude.{Option, None, Some}
use Rattle.refusal.specs.Numbers.{answered, refused}
use Rattle.number.specs.Read.{pick}
use Rattle.marks.specs.Count.{point_count}
use Rattle.walk.specs.Drawn.{Drawn}
use Rattle.walk.specs.Tests.{record_sound}
use Rattle.reaches.specs.declared.Place.{Place}
use Rattle.reaches.specs.Cells.{Reaches, cell_at}
use Rattle.reaches.specs.Widest.{complete, width, place_of, beats, wider, considered, widest_among, answer_of, widest_lent, widest_answer, IsWidest, NoneComplete, WidestPlace}
use Rattle.reaches.specs.Inner.{Room}

-- the loop over stations
module _ (count : ℕ) (r : Reaches) where
  pub none_considered : widest_among count 0 r ≡ None
  unfolding widest_among
  none_considered = refl

  pub one_considered : (i : ℕ) (b : Option Place) → b ≡ widest_among count i r → considered count i (cell_at i r) b ≡ widest_among count (i + 1) r
  unfolding widest_among
  one_considered i b e = rw (add-one i, e)

-- the test of 21 that passed
pub lent_room : (asked : ℕ) (r : Reaches) → widest_lent asked r ≡ true → Room asked r
unfolding widest_lent
lent_room asked r e =
    let l = leb asked (length r.left) in
    let m = leb asked (length r.right) in
    let n = leb asked (length r.marks) in
    let p = (and_parts (leb 1 asked && leb asked 2001) (l && (m && n)) e).1 in
    let q = and_parts l (m && n) p in
    let s = and_parts m n q.1 in
    record { left = leb-true asked _ q.0; right = leb-true asked _ s.0; marks = leb-true asked _ s.1 }

-- the answers
module _ (s : Drawn) (asked : ℕ) (r : Reaches) where
  pub not_lent : widest_lent asked r ≡ false → widest_answer s asked r ≡ refused 21
  unfolding widest_answer
  not_lent e = rw e

  pub not_sound : widest_lent asked r ≡ true → record_sound asked s ≡ false → widest_answer s asked r ≡ refused 27
  unfolding widest_answer
  not_sound e f = rw (e, f)

  pub answer_best : (b : Option Place) → widest_lent asked r ≡ true → record_sound asked s ≡ true → b ≡ widest_among (point_count s.vehicle) asked r → widest_answer s asked r ≡ answer_of b
  unfolding widest_answer
  answer_best b e f g = rw (e, f, ← g)

-- orders
≤-<-trans : {a b c : ℤ} → a ≤ℤ b → b <ℤ c → a <ℤ c
≤-<-trans {a} {b} {c} h k = by (lt_z a c) refl
  where
    by : (t : Bool) → lt_z a c ≡ t → a <ℤ c
    by true e = lt_z_yes (of_true e)
    by false e = clash_ℤ k (≤ℤ-trans (lt_z_false a c e) h)

<-≤ : {a b : ℤ} → a <ℤ b → a ≤ℤ b
<-≤ {a} {b} h = by (lt_z a b) refl
  where
    by : (t : Bool) → lt_z a b ≡ t → a ≤ℤ b
    by true e = lt_z_true-≤ a b e
    by false e = clash_ℤ h (lt_z_false a b e)

-- a place that beats another is wider, and one that does not is no wider
beats_means : (p q : Place) → (beats p q ≡ true → q.width <ℤ p.width) × (beats p q ≡ false → p.width ≤ℤ q.width)
beats_means p q = (λ e. lt_z_yes (of_true e), λ e. lt_z_false q.width p.width e)

-- what is so of the stations below n, and of station n, is so of those below n + 1
below_next : (P : ℕ → Type 0) (n : ℕ) → ((i : ℕ) → i < n → P i) → P n → (i : ℕ) → i < suc n → P i
below_next P n h e i l = ⊎_elim (λ (q : i ≡ n). subst P (sym q) e) (λ (k : i < n). h i k) (eq-or-lt_of_le (le_of_suc-le-suc l))

never_both : {A : Type 0} {b : Bool} → b ≡ true → b ≡ false → A
never_both p q = absurd (let z : ◌≡◌ {A = ℕ} 0 1 = cc in omega arith)

-- the best of the first n stations is right
abbrev pub Right : ℕ → ℕ → Reaches → Option Place → Type 0
Right count n r None = NoneComplete count n r
Right count n r (Some p) = IsWidest count n r p

module _ (count n : ℕ) (r : Reaches) where
  abbrev here : Place
  here = place_of n (cell_at n r)

  -- station n is not complete
  passed_over : complete count (cell_at n r) ≡ false → (b : Option Place) → Right count n r b → Right count (suc n) r b
  passed_over e None h = below_next (λ (i : ℕ). complete count (cell_at i r) ≡ false) n h e
  passed_over e (Some p) h =
      record {
        inside = omega (arith, h.inside);
        whole = h.whole;
        read = h.read;
        greatest = below_next (λ (i : ℕ). complete count (cell_at i r) ≡ true → width (cell_at i r) ≤ℤ p.width) n h.greatest (λ t. never_both t e);
        earliest = h.earliest;
      }

  -- it is, and beats all before it
  beaten : complete count (cell_at n r) ≡ true → ((i : ℕ) → i < n → complete count (cell_at i r) ≡ true → width (cell_at i r) <ℤ width (cell_at n r)) → IsWidest count (suc n) r here
  beaten e h =
      record {
        inside = omega arith;
        whole = e;
        read = refl;
        greatest =
            below_next (λ (i : ℕ). complete count (cell_at i r) ≡ true → width (cell_at i r) ≤ℤ width (cell_at n r)) n (λ i l t. <-≤ (h i l t)) (λ t. ≤ℤ_refl (width (cell_at n r)));
        earliest = h;
      }

  -- it is, and is no wider than the best
  kept : (q : Place) → width (cell_at n r) ≤ℤ q.width → IsWidest count n r q → IsWidest count (suc n) r q
  kept q e h =
      record {
        inside = omega (arith, h.inside);
        whole = h.whole;
        read = h.read;
        greatest = below_next (λ (i : ℕ). complete count (cell_at i r) ≡ true → width (cell_at i r) ≤ℤ q.width) n h.greatest (λ t. e);
        earliest = h.earliest;
      }

  compared : complete count (cell_at n r) ≡ true → (b : Option Place) → Right count n r b → Right count (suc n) r (wider here b)
  compared e None h = beaten e (λ i l t. never_both t (h i l))
  compared e (Some q) h = by (beats here q) refl
    where
      by : (t : Bool) → beats here q ≡ t → Right count (suc n) r (pick t (Some here) (Some q))
      by true f = beaten e (λ i l t. ≤-<-trans (h.greatest i l t) ((beats_means here q).0 f))
      by false f = kept q ((beats_means here q).1 f) h

  next_right : (b : Option Place) → Right count n r b → Right count (suc n) r (considered count n (cell_at n r) b)
  next_right b h = by (complete count (cell_at n r)) refl
    where
      by : (t : Bool) → complete count (cell_at n r) ≡ t → Right count (suc n) r (pick t (wider here b) b)
      by true e = compared e b h
      by false e = passed_over e b h

pub among_right : (count n : ℕ) (r : Reaches) → Right count n r (widest_among count n r)
unfolding widest_among
among_right count zero r = λ i h. absurd (not-suc-le-zero h)
among_right count (suc n) r = next_right count n r (widest_among count n r) (among_right count n r)

-- the claim
module _ (s : Drawn) (asked : ℕ) (r : Reaches) where
  abbrev count : ℕ
  count = point_count s.vehicle

  found : (p : Place) → widest_answer s asked r ≡ answered p → IsWidest count asked r p
  unfolding widest_answer
  found p = by (widest_lent asked r) (record_sound asked s) (widest_among count asked r) (among_right count asked r)
    where
      by : (t u : Bool) (b : Option Place) → Right count asked r b → pick t (pick u (answer_of b) (refused 27)) (refused 21) ≡ answered p → IsWidest count asked r p
      by true true None h e = absurd (let z : ◌≡◌ {A = ℕ} 0 1 = cc in omega arith)
      by true true (Some q) h e = let f : q ≡ p = cc in subst (IsWidest count asked r) f h
      by true false b h e = absurd (let z : ◌≡◌ {A = ℕ} 0 1 = cc in omega arith)
      by false u b h e = absurd (let z : ◌≡◌ {A = ℕ} 0 1 = cc in omega arith)

  nowhere : widest_answer s asked r ≡ refused 24 → NoneComplete count asked r
  unfolding widest_answer
  nowhere = by (widest_lent asked r) (record_sound asked s) (widest_among count asked r) (among_right count asked r)
    where
      by : (t u : Bool) (b : Option Place) → Right count asked r b → pick t (pick u (answer_of b) (refused 27)) (refused 21) ≡ refused 24 → NoneComplete count asked r
      by true true None h e = h
      by true true (Some q) h e = absurd (let z : ◌≡◌ {A = ℕ} 0 1 = cc in omega arith)
      by true false b h e = absurd (let f : ◌≡◌ {A = ℕ} 27 24 = cc in omega arith)
      by false u b h e = absurd (let f : ◌≡◌ {A = ℕ} 21 24 = cc in omega arith)

  only : widest_lent asked r ≡ true → record_sound asked s ≡ true → NoneComplete count asked r → widest_answer s asked r ≡ refused 24
  unfolding widest_answer
  only e f n = rw (e, f) (by (widest_among count asked r) (among_right count asked r))
    where
      by : (b : Option Place) → Right count asked r b → answer_of b ≡ refused 24
      by None h = refl
      by (Some p) h = never_both h.whole (n p.station h.inside)

pub widest_place_lem : WidestPlace
widest_place_lem = record { found = found; nowhere = nowhere; only = only }
