-- Where readers stop: each position, a refusal's too, lies within the input, and a refusal's number in a range. Assumes nothing.
use Prim.Native.Nat.{ℕ, zero, suc, ◌+◌, ◌%◌, ◌≤◌}
use mathlib.Core.Path.{◌≡◌, refl}
use mathlib.Core.List.{List, ◌∷◌}
use mathlib.Core.Bool.{Bool, true, false}
use native.Mathlib.Omega.{arith}
use borrow.Author.Tests.{ltb-true}
use lib.ListN.{length, get_or}
use lib.Dec.{ltb}
use lib.IntN.{ℤ}
use Rattle.number.specs.Read.{Read, got, refused, Reader, pick, and_then, ◌>>=◌, return, here, unless, many, into}
use Rattle.number.specs.Number.{onto, groups, below32, read_number}
use Rattle.number.specs.Signed.{signed_of}
use Rattle.number.specs.Field.{field, signed_number, signed_field}

-- a refusal by a number from 1 to `top`, placed within the input or at its end
pub record RefusedIn (s : List ℕ) (top n p : ℕ) : Type 0 where
  pub least : 1 ≤ n
  pub most : n ≤ top
  pub place : p ≤ length s

abbrev pub Inside : {A : Type 0} → List ℕ → ℕ → Read A → Type 0
Inside s top (got a e) = e ≤ length s
Inside s top (refused n p) = RefusedIn s top n p

-- a reader that stays within the input
pub record Stays {A : Type 0} (s : List ℕ) (top : ℕ) (r : Reader A) : Type 0 where
  pub inside : (at : ℕ) → at ≤ length s → Inside s top (r s at)

module _ (s : List ℕ) (top : ℕ) where
  pub returned : {A : Type 0} (a : A) → Stays s top (return a)
  returned a = record { inside = λ at h. h }

  pub after : {A B : Type 0} {r : Reader A} {f : A → Reader B} → Stays s top r → ((a : A) → Stays s top (f a)) → Stays s top (r >>= f)
  after {A} {B} {r} {f} k l = record { inside = λ at h. through (r s at) (k.inside at h) }
    where
      through : (x : Read A) → Inside s top x → Inside s top (and_then x (λ a e. f a s e))
      through (got a e) i = (l a).inside e i
      through (refused n p) i = i

  pub from_here : {A : Type 0} {f : ℕ → Reader A} → ((p : ℕ) → p ≤ length s → Stays s top (f p)) → Stays s top (here >>= f)
  from_here l = record { inside = λ at h. (l at h).inside at h }

  pub checked : {A : Type 0} {r : Reader A} (u : Bool) (n p : ℕ) → RefusedIn s top n p → Stays s top r → Stays s top (unless u n p r)
  checked {A} {r} u n p w k = record { inside = λ at h. by u at h }
    where
      by : (b : Bool) (at : ℕ) → at ≤ length s → Inside s top (unless b n p r s at)
      by true at h = k.inside at h
      by false at h = w

  -- values in a row
  pub in_row : {T A : Type 0} (one : T → Reader A) (next : T → A → T) (end : T → Reader (List A)) → ((t : T) → Stays s top (one t)) → ((t : T) → Stays s top (end t)) → (k : ℕ) (t : T) → Stays s top (many one next end k t)
  unfolding many
  in_row one next end o e zero t = e t
  in_row one next end o e (suc k) t = after (o t) (λ x. after (in_row one next end o e k (next t x)) (λ xs. returned (x ∷ xs)))

  pub laid : {A : Type 0} {r : Reader (List A)} (l : List A) → Stays s top r → Stays s top (λ t at. into l 0 (r t at))
  laid {A} {r} l k = record { inside = λ at h. through (r s at) (k.inside at h) }
    where
      through : (x : Read (List A)) → Inside s top x → Inside s top (into l 0 x)
      through (got xs e) i = i
      through (refused n p) i = i

  -- numbers are refused by 1 and 2
  module _ (two : 2 ≤ top) where
    module _ (from : ℕ) (f : from ≤ length s) where
      by_two : RefusedIn s top 2 from
      by_two = record { least = omega arith; most = two; place = f }

      onto_inside : (g : ℕ) (x : Read ℕ) → Inside s top x → Inside s top (onto from g x)
      onto_inside g (refused n p) i = i
      onto_inside g (got zero e) i = by_two
      onto_inside g (got (suc v) e) i = i

      groups_inside : (k at : ℕ) → at ≤ length s → Inside s top (groups from k s at)
      unfolding groups
      groups_inside zero at h = by_two
      groups_inside (suc k) at h = by (ltb at (length s)) refl (λ l. groups_inside k (at + 1) l)
        where
          next : (at + 1 ≤ length s → Inside s top (groups from k s (at + 1))) → at + 1 ≤ length s → (c : Bool) → Inside s top (pick c (got (get_or s at 0) (at + 1)) (onto from (get_or s at 0 % 128) (groups from k s (at + 1))))
          next later l true = l
          next later l false = onto_inside (get_or s at 0 % 128) (groups from k s (at + 1)) (later l)

          by : (b : Bool) → ltb at (length s) ≡ b → (at + 1 ≤ length s → Inside s top (groups from k s (at + 1))) → Inside s top (pick b (pick (ltb (get_or s at 0) 128) (got (get_or s at 0) (at + 1)) (onto from (get_or s at 0 % 128) (groups from k s (at + 1)))) (refused 1 from))
          by true e later = next later (omega (arith, ltb-true at (length s) e)) (ltb (get_or s at 0) 128)
          by false e later = record { least = omega arith; most = omega arith; place = f }

      below_inside : (x : Read ℕ) → Inside s top x → Inside s top (below32 from x)
      below_inside (refused n p) i = i
      below_inside (got v e) i = by (ltb v 4294967296)
        where
          by : (b : Bool) → Inside s top (pick b (got v e) (refused 2 from))
          by true = i
          by false = by_two

    pub number_stays : Stays s top read_number
    unfolding read_number
    number_stays = record { inside = λ at h. below_inside at h (groups at 5 s at) (groups_inside at h 5 at h) }

    pub signed_stays : Stays s top signed_number
    unfolding signed_number
    signed_stays = after number_stays (λ v. returned (signed_of v))

    -- a field's own refusal is placed where it starts
    module _ (fault : ℕ) (least : 1 ≤ fault) (fits : fault ≤ top) where
      tested : {A : Type 0} {r : Reader A} (allowed : A → Bool) → Stays s top r → Stays s top (here >>= (λ at. r >>= (λ v. unless (allowed v) fault at (return v))))
      tested allowed k = from_here (λ p h. after k (λ v. checked (allowed v) fault p (record { least = least; most = fits; place = h }) (returned v)))

      pub field_stays : (allowed : ℕ → Bool) → Stays s top (field fault allowed)
      unfolding field
      field_stays allowed = tested allowed number_stays

      pub signed_field_stays : (allowed : ℤ → Bool) → Stays s top (signed_field fault allowed)
      unfolding signed_field
      signed_field_stays allowed = tested allowed signed_stays
