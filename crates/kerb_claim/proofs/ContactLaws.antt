-- What the lowest contact of a step says of each of its moves, in segments that have a point in common.
use Prim.Native.Nat.{ℕ, zero, suc, ◌+◌, ◌<◌}
use mathlib.Core.Path.{◌≡◌, refl}
use mathlib.Core.Bool.{Bool, true, false, ◌||◌}
use mathlib.Core.List.Memᴰ
use mathlib.Core.List.{List, [], ◌∷◌, Memᴰ}
use mathlib.Core.Logic.{◌⊎◌, inl, inr}
use native.Mathlib.Omega.{arith}
use lib.ListN.{length, get_or}
use Rattle.std.specs.Prelude.{Option, Some, None}
use Rattle.std.proofs.lemmas.Bool.{or_left, or_right}
use Rattle.number.specs.Read.{pick}
use Rattle.plane.specs.declared.Vec2.{Vec2}
use Rattle.walk.specs.Rig.{zero_vector}
use Rattle.touching.specs.Touch.{touches, Meeting}
use Rattle.touching.proofs.Common.{rule}
use Rattle.kerb_line.specs.Contact.{Segment, segments, touches_one, lowest_from, lowest_touch}

not_both : {t : Bool} → t ≡ true → t ≡ false → ⊥
not_both p q = let z : ◌≡◌ {A = ℕ} 0 1 = cc in absurd (omega arith)

-- a move that meets one of some segments
pub record MeetsOne (a b : Vec2) (ss : List Segment) : Type 0 where
  pub segment : Segment
  pub among : Memᴰ segment ss
  pub meeting : Meeting a b segment.from segment.to

module _ (a b : Vec2) where
  pub meets : (ss : List Segment) → touches_one a b ss ≡ true → MeetsOne a b ss
  unfolding touches_one
  meets [] e = absurd (not_both e refl)
  meets (s ∷ ss) e = by (touches a b s.from s.to) refl e (λ h. meets ss h)
    where
      by : (t : Bool) → touches a b s.from s.to ≡ t → (t || touches_one a b ss) ≡ true → (touches_one a b ss ≡ true → MeetsOne a b ss) → MeetsOne a b (s ∷ ss)
      by true f h rest = record { segment = s; among = Memᴰ.head refl; meeting = (rule a b s.from s.to).0 f }
      by false f h rest = let m = rest h in record { segment = m.segment; among = Memᴰ.tail m.among; meeting = m.meeting }

  touches_true : (ss : List Segment) (s : Segment) → Memᴰ s ss → Meeting a b s.from s.to → touches_one a b ss ≡ true
  unfolding touches_one
  touches_true [] s h m = absurd (Memᴰ.not-nil h)
  touches_true (x ∷ ss) s h m = by (Memᴰ.cases_cons h) (λ k. touches_true ss s k m)
    where
      by : (s ≡ x) ⊎ Memᴰ s ss → (Memᴰ s ss → touches_one a b ss ≡ true) → (touches a b x.from x.to || touches_one a b ss) ≡ true
      by (inl e) rest = or_left (touches a b x.from x.to) (touches_one a b ss) ((rule a b x.from x.to).1 (rw e at m))
      by (inr k) rest = or_right (touches a b x.from x.to) (touches_one a b ss) (rest k)

  pub meets_none : (ss : List Segment) → touches_one a b ss ≡ false → MeetsOne a b ss → ⊥
  meets_none ss e m = not_both (touches_true ss m.segment m.among m.meeting) e

-- the moves, by their numbers
module _ (ss : List Segment) where
  abbrev test : List Vec2 → List Vec2 → ℕ → Bool
  test olds news j = touches_one (get_or olds j zero_vector) (get_or news j zero_vector) ss

  record Lowest (p : ℕ) (olds news : List Vec2) (q : ℕ) : Type 0 where
    place : ℕ
    number : q ≡ p + place
    below : place < length olds
    here : test olds news place ≡ true
    lower : (j : ℕ) → j < place → test olds news j ≡ false

  abbrev Says : ℕ → List Vec2 → List Vec2 → Option ℕ → Type 0
  Says p olds news None = (j : ℕ) → j < length olds → test olds news j ≡ false
  Says p olds news (Some q) = Lowest p olds news q

  says : (p : ℕ) (olds news : List Vec2) → length olds ≡ length news → Says p olds news (lowest_from p olds news ss)
  unfolding lowest_from
  says p [] news e = λ j l. absurd (omega arith)
  says p (a ∷ olds) [] e = absurd (omega arith)
  says p (a ∷ olds) (b ∷ news) e = by (touches_one a b ss) refl (lowest_from (p + 1) olds news ss) (says (p + 1) olds news (omega arith))
    where
      on : (n : ℕ) → touches_one a b ss ≡ false → ((j : ℕ) → j < n → test olds news j ≡ false) → (j : ℕ) → j < suc n → test (a ∷ olds) (b ∷ news) j ≡ false
      on n f h zero l = f
      on n f h (suc j) l = h j (omega arith)

      by : (t : Bool) → touches_one a b ss ≡ t → (x : Option ℕ) → Says (p + 1) olds news x → Says p (a ∷ olds) (b ∷ news) (pick t (Some p) x)
      by true f x h = record { place = 0; number = omega arith; below = omega arith; here = f; lower = λ j l. absurd (omega arith) }
      by false f None h = on (length olds) f h
      by false f (Some q) h = record { place = suc h.place; number = let e = h.number in omega arith; below = let l = h.below in omega arith; here = h.here; lower = on h.place f h.lower }

-- no move meets a segment of the kerb
abbrev pub Clear : List Vec2 → List Vec2 → List Segment → Type 0
Clear olds news ss = (j : ℕ) → j < length olds → MeetsOne (get_or olds j zero_vector) (get_or news j zero_vector) ss → ⊥

-- that of point q does, and no lower one
pub record LowestMeets (olds news : List Vec2) (ss : List Segment) (q : ℕ) : Type 0 where
  pub below : q < length olds
  pub meets : MeetsOne (get_or olds q zero_vector) (get_or news q zero_vector) ss
  pub lower : (j : ℕ) → j < q → MeetsOne (get_or olds j zero_vector) (get_or news j zero_vector) ss → ⊥

abbrev pub ContactSays : List Vec2 → List Vec2 → List Segment → Option ℕ → Type 0
ContactSays olds news ss None = Clear olds news ss
ContactSays olds news ss (Some q) = LowestMeets olds news ss q

pub contact_says : (olds news kerb : List Vec2) → length olds ≡ length news → ContactSays olds news (segments kerb) (lowest_touch olds news kerb)
unfolding lowest_touch
contact_says olds news kerb e = by (lowest_from 0 olds news (segments kerb)) (says (segments kerb) 0 olds news e)
  where
    by : (x : Option ℕ) → Says (segments kerb) 0 olds news x → ContactSays olds news (segments kerb) x
    by None h = λ j l m. meets_none (get_or olds j zero_vector) (get_or news j zero_vector) (segments kerb) (h j l) m
    by (Some q) h =
        let same : h.place ≡ q = let n = h.number in omega arith in
        let l = h.lower in
        record {
          below = let b = h.below in omega arith;
          meets = rw same at (meets (get_or olds h.place zero_vector) (get_or news h.place zero_vector) (segments kerb) h.here);
          lower = λ j k m. meets_none (get_or olds j zero_vector) (get_or news j zero_vector) (segments kerb) (l j (omega arith)) m;
        }
