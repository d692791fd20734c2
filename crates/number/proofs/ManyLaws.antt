-- A loop that reads values into an array: one turn, a refusal, and the end. Assumes nothing.
use Prim.Native.Nat.{ℕ, suc, ◌+◌, ◌-◌, ◌<◌, ◌≤◌}
use mathlib.Core.Path.{◌≡◌, refl}
use mathlib.Core.List.{List, [], ◌∷◌, ◌++◌}
use native.Mathlib.Omega.{arith}
use native.Mathlib.Numerals.{add-one}
use lib.ListN.{length, set, take, drop, get_or, length-take, drop_of_length-le}
use lib.Seq.{drop-cons, get_or-take}
use Rattle.number.specs.Read.{Read, got, refused, Reader, and_then, many, into, write_many}

-- a count that goes down as an index goes up
pub fuel : (n i : ℕ) → i < n → n - i ≡ suc (n - (i + 1))
fuel n i h = omega arith

module _ {T A : Type 0} (one : T → Reader A) (next : T → A → T) (end : T → Reader (List A)) (s : List ℕ) where
  pub into_end : (l : List A) (n i at : ℕ) (t : T) → n ≤ i → into l i (many one next end (n - i) t s at) ≡ into l i (end t s at)
  unfolding many
  into_end l n i at t h = let e : n - i ≡ 0 = omega arith in rw e

  into_cons : (l : List A) (i : ℕ) (a : A) (r : Read (List A)) → into l i (and_then r (λ xs e. got (a ∷ xs) e)) ≡ into (set l i a) (i + 1) r
  into_cons l i a (got xs e) = rw add-one
  into_cons l i a (refused n q) = refl

  pub into_more : (l : List A) (n i at : ℕ) (t : T) {a : A} {e : ℕ} → i < n → got a e ≡ one t s at → into l i (many one next end (n - i) t s at) ≡ into (set l i a) (i + 1) (many one next end (n - (i + 1)) (next t a) s e)
  unfolding many
  into_more l n i at t {a} {e} h g = rw (fuel n i h, ← g) (into_cons l i a (many one next end (n - (i + 1)) (next t a) s e))

  pub into_refused : (l : List A) (n i at : ℕ) (t : T) {m q : ℕ} → i < n → refused m q ≡ one t s at → into l i (many one next end (n - i) t s at) ≡ refused m q
  unfolding many
  into_refused l n i at t h g = rw (fuel n i h, ← g)

-- the first n of an array, from the i-th on
pub next_of : {A : Type 0} (es : List A) (n i : ℕ) (z : A) → n ≤ length es → i < n → drop i (take n es) ≡ get_or es i z ∷ drop (i + 1) (take n es)
next_of es n i z h l =
    let k : i < length (take n es) = omega (arith, length-take n es) in
    rw (drop-cons (take n es) i z k, get_or-take n es i z l, add-one)

pub none_of : {A : Type 0} (es : List A) (n i : ℕ) → n ≤ i → drop i (take n es) ≡ []
none_of es n i h = drop_of_length-le (take n es) {i = i} (omega (arith, length-take n es))

pub write_next : {A : Type 0} (w : A → List ℕ) (es : List A) (n i : ℕ) (z : A) → n ≤ length es → i < n → write_many w (drop i (take n es)) ≡ w (get_or es i z) ++ write_many w (drop (i + 1) (take n es))
unfolding write_many
write_next w es n i z h l = rw (next_of es n i z h l)

pub write_none : {A : Type 0} (w : A → List ℕ) (es : List A) (n i : ℕ) → n ≤ i → write_many w (drop i (take n es)) ≡ []
unfolding write_many
write_none w es n i h = rw (none_of es n i h)
