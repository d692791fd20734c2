-- How far a reader looks: two inputs that agree so far read alike. Assumes nothing.
use Prim.Native.Nat.{ℕ, zero, suc, ◌+◌, ◌*◌, ◌%◌, ◌<◌, ◌≤◌}
use mathlib.Core.Path.{◌≡◌, refl, sym, ◌∙◌, ap}
use mathlib.Core.List.{List, ◌∷◌}
use mathlib.Core.Bool.{Bool, true, false}
use native.Mathlib.Omega.{arith}
use lib.ListN.{length, get_or}
use lib.Dec.{ltb}
use lib.IntN.{ℤ}
use borrow.Author.Tests.{lt-ltb}
use Rattle.number.specs.Read.{Read, got, refused, Reader, pick, and_then, ◌>>=◌, return, here, unless, many, into}
use Rattle.number.specs.Number.{onto, groups, below32, read_number}
use Rattle.number.specs.Signed.{signed_of}
use Rattle.number.specs.Field.{field, signed_number, signed_field}
use Rattle.number.proofs.Codec.{first, chosen}

-- the first m bytes are there and are the same
pub record Agree (m : ℕ) (s t : List ℕ) : Type 0 where
  pub left : m ≤ length s
  pub right : m ≤ length t
  pub same : (i : ℕ) → i < m → get_or s i 0 ≡ get_or t i 0

-- a reader that looks at no more than w bytes, and what it lets through
pub record Local {A : Type 0} (r : Reader A) (w : ℕ) (P : A → Type 0) : Type 0 where
  pub same : (m : ℕ) (s t : List ℕ) (at : ℕ) → Agree m s t → at + w ≤ m → r s at ≡ r t at
  pub ends : (s : List ℕ) (at : ℕ) (a : A) (e : ℕ) → r s at ≡ got a e → (e ≤ at + w) × P a

pub wider : {A : Type 0} {r : Reader A} {P : A → Type 0} (w v : ℕ) → w ≤ v → Local r w P → Local r v P
wider w v h l = record {
  same = λ m s t at g k. l.same m s t at g (omega arith);
  ends = λ s at a e q. let k = l.ends s at a e q in (omega (arith, k.0), k.1);
}

pub returned : {A : Type 0} (a : A) → Local (return a) 0 (λ x. Unit {0})
returned a = record {
  same = λ m s t at g k. refl;
  ends = λ s at x e q. let p : at ≡ e = cc in (omega arith, tt);
}

pub after : {A B : Type 0} {r : Reader A} {f : A → Reader B} {P : A → Type 0} {Q : B → Type 0} (v w : ℕ) → Local r v P → ((a : A) → P a → Local (f a) w Q) → Local (r >>= f) (v + w) Q
after {A} {B} {r} {f} {P} {Q} v w l n = record {
  same = λ m s t at g k. rw (← l.same m s t at g (omega arith)) (through m s t at (r s at) refl g k);
  ends = λ s at b e q.
      let c = first (r s at) (λ a x. f a s x) b e q in
      let p = l.ends s at c.value c.next c.reads in
      let o = (n c.value p.1).ends s c.next b e c.then in
      (omega (arith, p.0, o.0), o.1);
}
  where
    through : (m : ℕ) (s t : List ℕ) (at : ℕ) (x : Read A) → r s at ≡ x → Agree m s t → at + (v + w) ≤ m → and_then x (λ a e. f a s e) ≡ and_then x (λ a e. f a t e)
    through m s t at (got a e) h g k =
        let p = l.ends s at a e h in
        (n a p.1).same m s t e g (omega (arith, p.0))
    through m s t at (refused i p) h g k = refl

pub from_here : {A : Type 0} {f : ℕ → Reader A} {P : A → Type 0} (w : ℕ) → ((p : ℕ) → Local (f p) w P) → Local (here >>= f) w P
from_here w l = record {
  same = λ m s t at g k. (l at).same m s t at g k;
  ends = λ s at a e q. (l at).ends s at a e q;
}

pub checked : {A : Type 0} {r : Reader A} {P : A → Type 0} (w : ℕ) (u : Bool) (n p : ℕ) → Local r w P → Local (unless u n p r) w (λ a. (u ≡ true) × P a)
checked {A} {r} {P} w u n p l = record {
  same = λ m s t at g k. ap (λ (x : Read A). pick u x (refused n p)) (l.same m s t at g k);
  ends = λ s at a e q. go u s at a e q;
}
  where
    go : (b : Bool) (s : List ℕ) (at : ℕ) (a : A) (e : ℕ) → unless b n p r s at ≡ got a e → (e ≤ at + w) × ((b ≡ true) × P a)
    go true s at a e q = let k = l.ends s at a e q in (k.0, (refl, k.1))
    go false s at a e q = absurd (let z : ◌≡◌ {A = ℕ} 0 1 = cc in omega arith)

-- values in a row
pub in_row : {T A : Type 0} (one : T → Reader A) (next : T → A → T) (end : T → Reader (List A)) (w : ℕ) → ((t : T) → Local (one t) w (λ x. Unit {0})) → ((t : T) → Local (end t) 0 (λ x. Unit {0})) → (k : ℕ) (t : T) → Local (many one next end k t) (k * w) (λ x. Unit {0})
unfolding many
in_row one next end w l n zero t = wider 0 (0 * w) (omega arith) (n t)
in_row one next end w l n (suc k) t =
    wider (w + (k * w + 0)) (suc k * w) (omega arith)
    (after w (k * w + 0) (l t) (λ x _. after (k * w) 0 (in_row one next end w l n k (next t x)) (λ xs _. returned (x ∷ xs))))

pub laid : {A : Type 0} {r : Reader (List A)} (w : ℕ) (l : List A) → Local r w (λ x. Unit {0}) → Local (λ s at. into l 0 (r s at)) w (λ x. Unit {0})
laid {A} {r} w l n = record {
  same = λ m s t at g k. ap (into l 0) (n.same m s t at g k);
  ends = λ s at a e q. let p = through (r s at) a e q in ((n.ends s at p.0 e p.1).0, tt);
}
  where
    through : (x : Read (List A)) (us : List A) (e : ℕ) → into l 0 x ≡ got us e → (xs : List A) × (x ≡ got xs e)
    through (got xs y) us e q = (xs, (let z : y ≡ e = cc in ap (got xs) z))
    through (refused m p) us e q = absurd (let z : ◌≡◌ {A = ℕ} 0 1 = cc in omega arith)

-- a number is at most five groups
groups_same : (from k m : ℕ) (s t : List ℕ) (at : ℕ) → Agree m s t → at + k ≤ m → groups from k s at ≡ groups from k t at
unfolding groups
groups_same from zero m s t at g h = refl
groups_same from (suc k) m s t at g h =
    let a : at < length s = omega (arith, g.left) in
    let b : at < length t = omega (arith, g.right) in
    rw (lt-ltb at (length s) a, lt-ltb at (length t) b, g.same at (omega arith), groups_same from k m s t (at + 1) g (omega arith))

onto_ends : (from g : ℕ) (r : Read ℕ) (x e : ℕ) → onto from g r ≡ got x e → (v : ℕ) × (r ≡ got v e)
onto_ends from g (refused n p) x e h = absurd (let z : ◌≡◌ {A = ℕ} 0 1 = cc in omega arith)
onto_ends from g (got zero y) x e h = absurd (let z : ◌≡◌ {A = ℕ} 0 1 = cc in omega arith)
onto_ends from g (got (suc v) y) x e h = (suc v, (let z : y ≡ e = cc in ap (got (suc v)) z))

groups_ends : (from k : ℕ) (s : List ℕ) (at x e : ℕ) → groups from k s at ≡ got x e → e ≤ at + k
unfolding groups
groups_ends from zero s at x e h = absurd (let z : ◌≡◌ {A = ℕ} 0 1 = cc in omega arith)
groups_ends from (suc k) s at x e h = go (ltb at (length s)) (ltb (get_or s at 0) 128) (λ v q. groups_ends from k s (at + 1) v e q) h
  where
    go : (b c : Bool) → ((v : ℕ) → groups from k s (at + 1) ≡ got v e → e ≤ at + 1 + k) → pick b (pick c (got (get_or s at 0) (at + 1)) (onto from (get_or s at 0 % 128) (groups from k s (at + 1)))) (refused 1 from) ≡ got x e → e ≤ at + suc k
    go false c later q = absurd (let z : ◌≡◌ {A = ℕ} 0 1 = cc in omega arith)
    go true true later q = let z : at + 1 ≡ e = cc in omega arith
    go true false later q =
        let o = onto_ends from (get_or s at 0 % 128) (groups from k s (at + 1)) x e q in
        omega (arith, later o.0 o.1)

pub number_local : Local read_number 5 (λ x. Unit {0})
unfolding read_number
number_local = record {
  same = λ m s t at g k. ap (below32 at) (groups_same at 5 m s t at g k);
  ends = λ s at x e q. (groups_ends at 5 s at x e (through at (groups at 5 s at) x e q), tt);
}
  where
    through : (from : ℕ) (r : Read ℕ) (x e : ℕ) → below32 from r ≡ got x e → r ≡ got x e
    through from (refused n p) x e h = h
    through from (got v y) x e h = go (ltb v 4294967296) h
      where
        go : (t : Bool) → pick t (got v y) (refused 2 from) ≡ got x e → ◌≡◌ {A = Read ℕ} (got v y) (got x e)
        go true q = q
        go false q = absurd (let z : ◌≡◌ {A = ℕ} 0 1 = cc in omega arith)

-- a reader's last word in another form, with what its test showed
pub tested : {A B : Type 0} {r : Reader A} (w : ℕ) (form : A → B) (fault : ℕ) (allowed : B → Bool) → Local r w (λ x. Unit {0}) → Local (here >>= (λ at. r >>= (λ v. unless (allowed (form v)) fault at (return (form v))))) w (λ v. allowed v ≡ true)
tested {A} {B} {r} w form fault allowed l = record {
  same = λ m s t at g k. ap (λ (x : Read A). and_then x (λ v e. pick (allowed (form v)) (got (form v) e) (refused fault at))) (l.same m s t at g k);
  ends = λ s at v e q.
      let f = first (r s at) (λ a x. unless (allowed (form a)) fault at (return (form a)) s x) v e q in
      let c = chosen (allowed (form f.value)) refl (form f.value) f.next fault at v e f.then in
      (omega (arith, (l.ends s at f.value f.next f.reads).0, c.2), ap allowed (sym c.1) ∙ c.0);
}

pub field_local : (fault : ℕ) (allowed : ℕ → Bool) → Local (field fault allowed) 5 (λ v. allowed v ≡ true)
unfolding field
field_local fault allowed = tested 5 (λ v. v) fault allowed number_local

pub signed_local : Local signed_number 5 (λ x. Unit {0})
unfolding signed_number
signed_local = after 5 0 number_local (λ v _. returned (signed_of v))

pub signed_field_local : (fault : ℕ) (allowed : ℤ → Bool) → Local (signed_field fault allowed) 5 (λ z. allowed z ≡ true)
unfolding signed_field
signed_field_local fault allowed = tested 5 (λ z. z) fault allowed signed_local
