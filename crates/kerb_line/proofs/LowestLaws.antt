-- The lowest point that passes one test or another, told one test after the other; and the contact, read off the lists of places.
use Prim.Native.Nat.{ℕ, zero, suc, ◌+◌, ◌≤◌, ◌<◌}
use mathlib.Core.Path.{◌≡◌, refl, sym, ◌∙◌, ap}
use mathlib.Core.Bool.{Bool, true, false, ◌||◌}
use mathlib.Core.List.{List, [], ◌∷◌}
use native.Mathlib.Omega.{arith}
use lib.ListN.{length, take}
use lib.Seq.{get_or-take, length-take-le}
use Rattle.std.proofs.lemmas.Bool.{or_from, or_right}
use Rattle.std.specs.Prelude.{Option, Some, None}
use Rattle.std.specs.Option.{unwrap_or, option_or}
use Rattle.plane.specs.declared.Vec2.{Vec2}
use Rattle.kerb_line.specs.Contact.{Segment, lowest_from}
use Rattle.kerb_line.specs.Kerb.{origin}
use Rattle.kerb_line.specs.Inner.{LowestAt, LowestOf, move_touches, move_touches_one, Testable}

-- what is found below the lowest so far, or else the lowest so far, is the lowest of both
module _ (n : ℕ) (f g : ℕ → Bool) where
  first_found : (r : ℕ) → LowestAt n f r → ((p : ℕ) → p < r → g p ≡ false) → LowestAt n (λ p. f p || g p) r
  first_found r a h = record { below = a.below; here = rw a.here; before = λ p l. or_from (f p) _ (a.before p l) (h p l) }

  second_found : (m s : ℕ) → m ≤ n → ((p : ℕ) → p < m → f p ≡ false) → LowestAt m g s → LowestAt n (λ p. f p || g p) s
  second_found m s k h b =
      let l = b.below in
      record { below = omega arith; here = or_right (f s) _ b.here; before = λ p q. or_from (f p) _ (h p (omega arith)) (b.before p q) }

  pub lowest_of_both : (o q : Option ℕ) → LowestOf n f o → LowestOf (unwrap_or o n) g q → LowestOf n (λ p. f p || g p) (option_or q o)
  lowest_of_both None None a b = λ p l. or_from (f p) _ (a p l) (b p l)
  lowest_of_both (Some r) None a b = first_found r a b
  lowest_of_both None (Some s) a b = second_found n s (omega arith) a b
  lowest_of_both (Some r) (Some s) a b = let l = a.below in second_found r s (omega arith) a.before b

-- how far the points are still tested, and which of them is lowest, after one test more
pub tested_to : (o q : Option ℕ) (n : ℕ) → unwrap_or (option_or q o) n ≡ unwrap_or q (unwrap_or o n)
tested_to o None n = refl
tested_to o (Some s) n = refl

pub or_or : (o q r : Option ℕ) → option_or r (option_or q o) ≡ option_or (option_or r q) o
or_or o q None = refl
or_or o q (Some s) = refl

pub or_none : (o : Option ℕ) → option_or o None ≡ o
or_none None = refl
or_none (Some r) = refl

pub tested_most : (n : ℕ) (f : ℕ → Bool) (o : Option ℕ) → LowestOf n f o → unwrap_or o n ≤ n
tested_most n f None a = omega arith
tested_most n f (Some r) a = omega (arith, a.below)

-- the moves of the first points alone
module _ (m : ℕ) (olds news : List Vec2) (v w : Vec2) (h : m ≤ length olds) where
  pub first_testable : Testable olds news v w → Testable (take m olds) (take m news) v w
  first_testable t =
      let a = length-take-le m olds h in
      let b : length (take m news) ≡ m = length-take-le m news (rw t.moves at h) in
      record {
        moves = a ∙ sym b;
        old = λ p l. let k : p < m = omega arith in rw (get_or-take m olds p origin k) (t.old p (omega arith));
        new = λ p l. let k : p < m = omega arith in rw (get_or-take m news p origin k) (t.new p (omega (arith, t.moves)));
        from = t.from;
        to = t.to;
      }

  same_move : (p : ℕ) → p < m → move_touches (take m olds) (take m news) v w p ≡ move_touches olds news v w p
  same_move p l = rw (get_or-take m olds p origin l, get_or-take m news p origin l)

  pub of_first : (o : Option ℕ) → LowestOf (length (take m olds)) (move_touches (take m olds) (take m news) v w) o → LowestOf m (move_touches olds news v w) o
  of_first None a = λ p l. sym (same_move p l) ∙ a p (rw (length-take-le m olds h) l)
  of_first (Some r) a =
      let l : r < m = omega (arith, a.below, length-take-le m olds h) in
      record { below = l; here = sym (same_move r l) ∙ a.here; before = λ p k. sym (same_move p (omega arith)) ∙ a.before p k }

-- the contact by number, read off the lists of places
module _ (ss : List Segment) where
  contact_at : (p r : ℕ) (olds news : List Vec2) → r < length olds → length olds ≡ length news → ((q : ℕ) → q < r → move_touches_one olds news ss q ≡ false)
      → move_touches_one olds news ss r ≡ true → lowest_from p olds news ss ≡ Some (p + r)
  unfolding lowest_from
  contact_at p r [] news l m before here = absurd (omega arith)
  contact_at p r (a ∷ olds) [] l m before here = absurd (omega arith)
  contact_at p zero (a ∷ olds) (b ∷ news) l m before here = rw here (ap (λ (n : ℕ). Some n) (omega arith))
  contact_at p (suc r) (a ∷ olds) (b ∷ news) l m before here =
      rw (before 0 (omega arith))
      (contact_at (p + 1) r olds news (omega arith) (omega arith) (λ q h. before (suc q) (omega arith)) here ∙ ap (λ (n : ℕ). Some n) (omega arith))

  no_contact : (p : ℕ) (olds news : List Vec2) → ((q : ℕ) → q < length olds → move_touches_one olds news ss q ≡ false) → lowest_from p olds news ss ≡ None
  unfolding lowest_from
  no_contact p [] news before = refl
  no_contact p (a ∷ olds) [] before = refl
  no_contact p (a ∷ olds) (b ∷ news) before = rw (before 0 (omega arith)) (no_contact (p + 1) olds news (λ q h. before (suc q) (omega arith)))

  pub contact : (olds news : List Vec2) (o : Option ℕ) → length olds ≡ length news → LowestOf (length olds) (move_touches_one olds news ss) o → o ≡ lowest_from 0 olds news ss
  contact olds news None m a = sym (no_contact 0 olds news a)
  contact olds news (Some r) m a = sym (contact_at 0 r olds news a.below m a.before a.here ∙ ap (λ (n : ℕ). Some n) (omega arith))
