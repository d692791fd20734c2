-- A number: the two directions. Assumes nothing.
use Prim.Native.Nat.{ℕ, zero, suc, ◌+◌, ◌-◌, ◌*◌, ◌^◌, ◌%◌, ◌/◌, ◌<◌, ◌≤◌}
use mathlib.Core.Path.{◌≡◌, refl, sym, ◌∙◌, ap}
use mathlib.Core.List.{List, [], ◌∷◌, ◌++◌}
use mathlib.Core.Bool.{Bool, true, false}
use native.Mathlib.Omega.{arith}
use native.Mathlib.Numerals.{add-one}
use native.Mathlib.Nat.{pow-suc, pow-le-pow_right}
use lib.ListN.{length, drop, get_or, length-drop}
use lib.Seq.{drop-cons}
use lib.Dec.{ltb}
use borrow.Author.Tests.{lt-ltb, le-ltb, ltb-true, ltb-false}
use Rattle.number.specs.Read.{Bytes, Read, got, refused, pick}
use Rattle.number.specs.Number.{onto, groups, below32, read_number, write_groups, write_number}
use Rattle.number.proofs.GroupLaws.{pick_by, at_last_lem, at_more, onto_pos}
use Rattle.number.proofs.Codec.{both_bytes, Codec}

-- what a position holds, from the list that starts there
pub record Head (s : List ℕ) (at a : ℕ) (r : List ℕ) : Type 0 where
  pub within : at < length s
  pub byte : get_or s at 0 ≡ a
  pub rest : drop (at + 1) s ≡ r

pub head : (s : List ℕ) (at a : ℕ) (r : List ℕ) → drop at s ≡ a ∷ r → Head s at a r
head s at a r h =
    let n : length (drop at s) ≡ suc (length r) = ap length h in
    let l : at < length s = omega (arith, length-drop at s) in
    let k : drop at s ≡ get_or s at 0 ∷ drop (suc at) s = drop-cons s at 0 l in
    record { within = l; byte = cc; rest = rw add-one (cc) }

-- a last group, and a group with others after it
one_group : (from k x : ℕ) (s : List ℕ) (at : ℕ) (post : List ℕ) → x < 128 → drop at s ≡ x ∷ post → groups from (suc k) s at ≡ got x (at + 1)
one_group from k x s at post l h =
    let q = head s at x post h in
    at_last_lem from (suc k) s at (omega arith) q.within (omega (arith, q.byte)) ∙ ap (λ (v : ℕ). got v (at + 1)) q.byte

more_groups : (from k x e : ℕ) (s : List ℕ) (at : ℕ) (post : List ℕ) → 128 ≤ x → drop at s ≡ (x % 128 + 128) ∷ post → groups from (suc k) s (at + 1) ≡ got (x / 128) e → groups from (suc (suc k)) s at ≡ got x e
more_groups from k x e s at post l h g =
    let q = head s at (x % 128 + 128) post h in
    let d : suc (suc k) - 1 ≡ suc k = omega arith in
    let b = q.byte in
    at_more from (suc (suc k)) s at (omega arith) q.within (omega arith) (sym (ap (λ (j : ℕ). groups from j s (at + 1)) d ∙ g))
    ∙ onto_pos from (get_or s at 0 % 128) (x / 128) e (omega arith)
    ∙ ap (λ (v : ℕ). got v e) (omega arith)

written : (from k x : ℕ) → x < 128 ^ suc k → (s : List ℕ) (at : ℕ) (post : List ℕ) → drop at s ≡ write_groups k x ++ post → groups from (suc k) s at ≡ got x (at + length (write_groups k x))
unfolding write_groups
written from zero x f s at post h = one_group from 0 x s at post (omega arith) h
written from (suc k) x f s at post h =
    by_test (ltb x 128) refl (λ l g. written from k (x / 128) l s (at + 1) post g)
  where
    by_test : (t : Bool) → ltb x 128 ≡ t → (x / 128 < 128 ^ suc k → drop (at + 1) s ≡ write_groups k (x / 128) ++ post → groups from (suc k) s (at + 1) ≡ got (x / 128) (at + 1 + length (write_groups k (x / 128)))) → groups from (suc (suc k)) s at ≡ got x (at + length (write_groups (suc k) x))
    by_test true e ih = rw e (one_group from (suc k) x s at post (ltb-true x 128 e) (rw e at h))
    by_test false e ih =
        let g : drop at s ≡ (x % 128 + 128) ∷ (write_groups k (x / 128) ++ post) = rw e at h in
        let l : x / 128 < 128 ^ suc k = omega (arith, pow-suc 128 (suc k)) in
        let n : at + suc (length (write_groups k (x / 128))) ≡ at + 1 + length (write_groups k (x / 128)) = omega arith in
        rw (e, n) (more_groups from k x _ s at _ (ltb-false x 128 e) g (ih l (head s at _ _ g).rest))

-- what stands at a position within the list
at_head : (s : List ℕ) (at : ℕ) → at < length s → drop at s ≡ get_or s at 0 ∷ drop (at + 1) s
at_head s at l = rw add-one (drop-cons s at 0 l)

pub write_last : (k x : ℕ) → x < 128 → write_groups k x ≡ x ∷ []
unfolding write_groups
write_last zero x l = refl
write_last (suc k) x l = rw (lt-ltb x 128 l)

write_more : (k x b v : ℕ) → 128 ≤ b → b < 256 → x ≡ b % 128 + 128 * suc v → write_groups (suc k) x ≡ b ∷ write_groups k (suc v)
unfolding write_groups
write_more k x b v l u e =
    let p : x % 128 + 128 ≡ b = omega arith in
    let q : x / 128 ≡ suc v = omega arith in
    rw (le-ltb x 128 (omega arith), p, q)

record After (from g : ℕ) (r : Read ℕ) (x e : ℕ) : Type 0 where
  pub high : ℕ
  pub reads : r ≡ got (suc high) e
  pub sum : x ≡ g + 128 * suc high

after : (from g : ℕ) (r : Read ℕ) (x e : ℕ) → onto from g r ≡ got x e → After from g r x e
after from g (refused n p) x e h = absurd (let z : ◌≡◌ {A = ℕ} 0 1 = cc in omega arith)
after from g (got zero y) x e h = absurd (let z : ◌≡◌ {A = ℕ} 0 1 = cc in omega arith)
after from g (got (suc v) y) x e h = record { high = v; reads = cc; sum = cc }

abbrev Back : ℕ → List ℕ → ℕ → ℕ → ℕ → Type 0
Back k s at x e = (x < 128 ^ suc k) × (drop at s ≡ write_groups k x ++ drop e s) × (e ≡ at + length (write_groups k x))

-- the cases of a reading, with what the later groups come to
by_tests : (from k x e : ℕ) (s : List ℕ) (at : ℕ) (r : Read ℕ) → Bytes s → ((v : ℕ) → r ≡ got (suc v) e → 128 ≤ get_or s at 0 → x ≡ get_or s at 0 % 128 + 128 * suc v → at < length s → Back k s at x e) → (t u : Bool) → ltb at (length s) ≡ t → ltb (get_or s at 0) 128 ≡ u → pick t (pick u (got (get_or s at 0) (at + 1)) (onto from (get_or s at 0 % 128) r)) (refused 1 from) ≡ got x e → Back k s at x e
by_tests from k x e s at r bs later false u p q h = absurd (let z : ◌≡◌ {A = ℕ} 0 1 = cc in omega arith)
by_tests from k x e s at r bs later true true p q h =
    let vx : get_or s at 0 ≡ x = cc in
    let ve : at + 1 ≡ e = cc in
    let l : x < 128 = omega (arith, ltb-true (get_or s at 0) 128 q) in
    let d : drop at s ≡ get_or s at 0 ∷ drop (at + 1) s = at_head s at (ltb-true at (length s) p) in
    let w : 128 ^ 1 ≤ 128 ^ suc k = pow-le-pow_right {n = 128} (omega arith) {i = 1} {j = suc k} (omega arith) in
    rw (write_last k x l) (omega arith, cc, omega arith)
by_tests from k x e s at r bs later true false p q h =
    let a = after from (get_or s at 0 % 128) r x e h in
    later a.high a.reads (ltb-false (get_or s at 0) 128 q) a.sum (ltb-true at (length s) p)

read_back_lem : (from k : ℕ) (s : List ℕ) (at x e : ℕ) → Bytes s → groups from (suc k) s at ≡ got x e → Back k s at x e
unfolding groups
read_back_lem from zero s at x e bs h =
    by_tests from 0 x e s at (refused 2 from) bs (λ v g l m i. absurd (let z : ◌≡◌ {A = ℕ} 0 1 = cc in omega arith)) (ltb at (length s)) (ltb (get_or s at 0) 128) refl refl h
read_back_lem from (suc k) s at x e bs h =
    by_tests from (suc k) x e s at (groups from (suc k) s (at + 1)) bs
    (λ v g l m i.
    let b = read_back_lem from k s (at + 1) (suc v) e bs g in
    let b₀ = b.0 in
    let d : drop (at + 1) s ≡ write_groups k (suc v) ++ drop e s = b.1 in
    let n : e ≡ at + 1 + length (write_groups k (suc v)) = b.2 in
    let a : drop at s ≡ get_or s at 0 ∷ drop (at + 1) s = at_head s at i in
    rw (write_more k x (get_or s at 0) v l (bs at) m) (omega (arith, pow-suc 128 (suc k), bs at), cc, omega arith))
    (ltb at (length s)) (ltb (get_or s at 0) 128) refl refl h

below : (from : ℕ) (r : Read ℕ) (x e : ℕ) → below32 from r ≡ got x e → (r ≡ got x e) × (x < 2 ^ 32)
below from (refused n p) x e h = absurd (let z : ◌≡◌ {A = ℕ} 0 1 = cc in omega arith)
below from (got v y) x e h = go (ltb v 4294967296) refl h
  where
    go : (t : Bool) → ltb v 4294967296 ≡ t → pick t (got v y) (refused 2 from) ≡ got x e → (◌≡◌ {A = Read ℕ} (got v y) (got x e)) × (x < 2 ^ 32)
    go true q g = let p : v ≡ x = cc in (g, omega (arith, ltb-true v 4294967296 q))
    go false q g = absurd (let z : ◌≡◌ {A = ℕ} 0 1 = cc in omega arith)

-- each group is a byte
one_byte : (b : ℕ) → b < 256 → Bytes (b ∷ [])
one_byte b h zero = h
one_byte b h (suc i) = omega arith

group_bytes : (k x : ℕ) → x < 128 ^ suc k → Bytes (write_groups k x)
unfolding write_groups
group_bytes zero x h = one_byte x (omega arith)
group_bytes (suc k) x h =
    pick_by Bytes (ltb x 128) {x = x ∷ []} {y = (x % 128 + 128) ∷ write_groups k (x / 128)}
    (λ t. one_byte x (omega (arith, ltb-true x 128 t)))
    (λ t. both_bytes ((x % 128 + 128) ∷ []) (write_groups k (x / 128)) (one_byte (x % 128 + 128) (omega arith)) (group_bytes k (x / 128) (omega (arith, pow-suc 128 (suc k)))))

pub number : Codec read_number write_number (λ x. x < 2 ^ 32)
unfolding read_number write_number
number = record {
  there = λ x o s at post h. rw (written at 4 x (omega arith) s at post h, lt-ltb x 4294967296 (omega arith));
  back = λ s at x e bs h.
      let b = below at (groups at 5 s at) x e h in
      let k = read_back_lem at 4 s at x e bs b.0 in
      (b.1, k.1, k.2);
  bytes = λ x o. group_bytes 4 x (omega arith);
}
