-- What some steps make of a cell, from any cell at the start.
use Prim.Native.Nat.{ℕ, ◌+◌, ◌<◌}
use mathlib.Core.Path.{◌≡◌, refl, sym, ◌∙◌, ap, subst}
use mathlib.Core.Bool.{Bool, true, false, ◌||◌}
use mathlib.Core.List.{List, [], ◌∷◌, ◌++◌}
use native.Mathlib.Omega.{arith}
use lib.ListN.{length, get_or}
use lib.IntN.{ℤ}
use lib.Signed.{◌≤ℤ◌}
use Rattle.exact.proofs.Order.{≤ℤ-trans, ≤ℤ-antisym}
use Rattle.number.specs.Read.{pick}
use Rattle.plane.specs.declared.Vec2.{Vec2}
use Rattle.path.specs.declared.Station.{Station}
use Rattle.walk.specs.Rig.{zero_vector}
use Rattle.reaches.specs.declared.Cell.{Cell}
use Rattle.marks.specs.Marks.{has_bit}
use Rattle.reaches.specs.Crossing.{reach_of, crosses, smaller, greater, crossed_by, crossed_from}
use Rattle.reaches.proofs.LeastGreatest.{sorted, smaller_least, greater_most}
use Rattle.reaches.proofs.CrossingLaws.{step_bit}
use Rattle.claim.specs.StationHistory.{Moves, ever_crossed, entering_in, entering, least_of, greatest_of}

-- two numbers entered as one
module _ (R : ℤ → ℤ → Type 0) (op : ℤ → ℤ → ℤ)
    (trans : (a b c : ℤ) → R a b → R b c → R a c) (antisym : (a b : ℤ) → R a b → R b a → a ≡ b)
    (first : (a b : ℤ) → R (op a b) a) (second : (a b : ℤ) → R (op a b) b) (both : (a b c : ℤ) → R c a → R c b → R c (op a b)) where
  together : (l a b : ℤ) → op l (op a b) ≡ op (op l a) b
  together l a b =
      antisym _ _
      (both (op l a) b _ (both l a _ (first l (op a b)) (trans _ (op a b) a (second l (op a b)) (first a b))) (trans _ (op a b) b (second l (op a b)) (second a b)))
      (both l (op a b) _ (trans _ (op l a) l (first (op l a) b) (first l a)) (both a b _ (trans _ (op l a) a (first (op l a) b) (second l a)) (second (op l a) b)))

smaller_together : (l a b : ℤ) → smaller l (smaller a b) ≡ smaller (smaller l a) b
smaller_together = together (λ a b. a ≤ℤ b) smaller (λ a b c h k. ≤ℤ-trans h k) (λ a b h k. ≤ℤ-antisym h k) (λ a b. (sorted a b).least_first) (λ a b. (sorted a b).least_second) smaller_least

greater_together : (l a b : ℤ) → greater l (greater a b) ≡ greater (greater l a) b
greater_together =
    together (λ a b. b ≤ℤ a) greater (λ a b c h k. ≤ℤ-trans k h) (λ a b h k. ≤ℤ-antisym k h) (λ a b. (sorted a b).most_first) (λ a b. (sorted a b).most_second)
    (λ a b c p q. greater_most a b c p q)

-- lists one after the other
least_append : (l : ℤ) (xs ys : List ℤ) → least_of l (xs ++ ys) ≡ least_of (least_of l xs) ys
unfolding least_of
least_append l [] ys = refl
least_append l (x ∷ xs) ys = least_append (smaller l x) xs ys

greatest_append : (l : ℤ) (xs ys : List ℤ) → greatest_of l (xs ++ ys) ≡ greatest_of (greatest_of l xs) ys
unfolding greatest_of
greatest_append l [] ys = refl
greatest_append l (x ∷ xs) ys = greatest_append (greater l x) xs ys

-- one step of all points
step_left : (p : ℕ) (s : Station) (olds news : List Vec2) (c : Cell) → (crossed_from p s olds news c).left ≡ least_of c.left (entering_in s olds news)
unfolding crossed_from crossed_by entering_in least_of
step_left p s [] news c = refl
step_left p s (old ∷ olds) [] c = refl
step_left p s (old ∷ olds) (new ∷ news) c = step_left (p + 1) s olds news (crossed_by p s old new c) ∙ by (crosses s old new) refl
  where
    by : (t : Bool) → crosses s old new ≡ t → least_of (crossed_by p s old new c).left (entering_in s olds news) ≡ least_of c.left (pick t (reach_of s old ∷ reach_of s new ∷ entering_in s olds news) (entering_in s olds news))
    by true e = rw (e, smaller_together c.left (reach_of s old) (reach_of s new)) refl
    by false e = rw e refl

step_right : (p : ℕ) (s : Station) (olds news : List Vec2) (c : Cell) → (crossed_from p s olds news c).right ≡ greatest_of c.right (entering_in s olds news)
unfolding crossed_from crossed_by entering_in greatest_of
step_right p s [] news c = refl
step_right p s (old ∷ olds) [] c = refl
step_right p s (old ∷ olds) (new ∷ news) c = step_right (p + 1) s olds news (crossed_by p s old new c) ∙ by (crosses s old new) refl
  where
    by : (t : Bool) → crosses s old new ≡ t → greatest_of (crossed_by p s old new c).right (entering_in s olds news) ≡ greatest_of c.right (pick t (reach_of s old ∷ reach_of s new ∷ entering_in s olds news) (entering_in s olds news))
    by true e = rw (e, greater_together c.right (reach_of s old) (reach_of s new)) refl
    by false e = rw e refl

-- from a cell at the start to one at the end
pub record KeptFrom (n : ℕ) (s : Station) (ms : List Moves) (c0 c : Cell) : Type 0 where
  pub bits : (p : ℕ) → p < n → has_bit p c.mark ≡ (ever_crossed p s ms || has_bit p c0.mark)
  pub left : c.left ≡ least_of c0.left (entering s ms)
  pub right : c.right ≡ greatest_of c0.right (entering s ms)

pub kept_none : (n : ℕ) (s : Station) (c : Cell) → KeptFrom n s [] c c
unfolding ever_crossed entering least_of greatest_of
kept_none n s c = record { bits = λ p h. refl; left = refl; right = refl }

bit_kept : (s : Station) (olds news : List Vec2) (c : Cell) (p : ℕ) → p < length olds → p < length news
    → has_bit p (crossed_from 0 s olds news c).mark ≡ (crosses s (get_or olds p zero_vector) (get_or news p zero_vector) || has_bit p c.mark)
bit_kept s olds news c p h k =
    let e : 0 + p ≡ p = omega arith in
    subst (λ (q : ℕ). has_bit q (crossed_from 0 s olds news c).mark ≡ (crosses s (get_or olds p zero_vector) (get_or news p zero_vector) || has_bit q c.mark)) e (step_bit 0 s olds news c p h k)

either_order : (a b c : Bool) → (a || (b || c)) ≡ ((b || a) || c)
either_order true true c = refl
either_order true false c = refl
either_order false true c = refl
either_order false false c = refl

pub kept_more : (n : ℕ) (s : Station) (m : Moves) (ms : List Moves) (c0 c : Cell) → length m.olds ≡ n → length m.news ≡ n
    → KeptFrom n s ms (crossed_from 0 s m.olds m.news c0) c → KeptFrom n s (m ∷ ms) c0 c
unfolding ever_crossed entering
kept_more n s m ms c0 c e k h =
    record {
      bits = λ p l.
          h.bits p l
          ∙ ap (λ (t : Bool). ever_crossed p s ms || t) (bit_kept s m.olds m.news c0 p (omega (arith, e)) (omega (arith, k)))
          ∙ either_order (ever_crossed p s ms) (crosses s (get_or m.olds p zero_vector) (get_or m.news p zero_vector)) (has_bit p c0.mark);
      left = h.left ∙ ap (λ (z : ℤ). least_of z (entering s ms)) (step_left 0 s m.olds m.news c0) ∙ sym (least_append c0.left (entering_in s m.olds m.news) (entering s ms));
      right = h.right ∙ ap (λ (z : ℤ). greatest_of z (entering s ms)) (step_right 0 s m.olds m.news c0) ∙ sym (greatest_append c0.right (entering_in s m.olds m.news) (entering s ms));
    }
