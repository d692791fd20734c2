-- A number of values, one after the other, with a state that goes through them: the two directions. Assumes nothing.
use Prim.Native.Nat.{ℕ, zero, suc, ◌+◌, ◌≤◌}
use mathlib.Core.Path.{◌≡◌, refl, sym, ◌∙◌, ap, subst}
use mathlib.Core.List.{List, [], ◌∷◌, ◌++◌, append_assoc}
use native.Mathlib.Omega.{arith}
use lib.ListN.{length, drop, take, length-append}
use lib.Seq.{sets, sets-eq, take_at}
use Rattle.number.specs.Read.{Bytes, Read, got, refused, Reader, and_then, many, into, write_many}
use Rattle.number.proofs.Codec.{both_bytes, Codec, past, first}

-- k values, each of which meets ok at its state, and an end that is met
abbrev pub Each : {T A : Type 0} → (T → A → Type 0) → (T → A → T) → (T → List A → Type 0) → ℕ → T → List A → Type 0
Each ok next met zero t xs = met t xs
Each ok next met (suc k) t [] = ⊥
Each ok next met (suc k) t (x ∷ xs) = ok t x × Each ok next met k (next t x) xs

module _ {T A : Type 0} (one : T → Reader A) (w : A → List ℕ) (ok : T → A → Type 0) (next : T → A → T) (end : T → Reader (List A)) (met : T → List A → Type 0) (c : (t : T) → Codec (one t) w (ok t)) (l : (t : T) → Codec (end t) (write_many w) (met t)) where
  there : (k : ℕ) (t : T) (xs : List A) → Each ok next met k t xs → (s : List ℕ) (at : ℕ) (post : List ℕ) → drop at s ≡ write_many w xs ++ post → many one next end k t s at ≡ got xs (at + length (write_many w xs))
  unfolding many
  there zero t xs o s at post h = (l t).there xs o s at post h
  there (suc k) t [] o s at post h = absurd o
  there (suc k) t (x ∷ xs) o s at post h =
      let u : write_many w (x ∷ xs) ≡ w x ++ write_many w xs = unfold write_many in refl in
      let h₁ : drop at s ≡ w x ++ (write_many w xs ++ post) = h ∙ ap (λ (b : List ℕ). b ++ post) u ∙ append_assoc (w x) (write_many w xs) post in
      rw ((c t).there x o.0 s at (write_many w xs ++ post) h₁, there k (next t x) xs o.1 s (at + length (w x)) post (past s (w x) (write_many w xs ++ post) at h₁))
      (ap (got (x ∷ xs)) (omega (arith, length-append (w x) (write_many w xs), ap length u)))

  back : (k : ℕ) (t : T) (s : List ℕ) (at : ℕ) (xs : List A) (e : ℕ) → Bytes s → many one next end k t s at ≡ got xs e → Each ok next met k t xs × (drop at s ≡ write_many w xs ++ drop e s) × (e ≡ at + length (write_many w xs))
  unfolding many
  back zero t s at xs e bs h = (l t).back s at xs e bs h
  back (suc k) t s at [] e bs h =
      let q = first (one t s at) (λ a y. and_then (many one next end k (next t a) s y) (λ ys z. got (a ∷ ys) z)) [] e h in
      let r = first (many one next end k (next t q.value) s q.next) (λ ys z. got (q.value ∷ ys) z) [] e q.then in
      absurd (let z : ◌≡◌ {A = ℕ} 0 1 = cc in omega arith)
  back (suc k) t s at (x ∷ xs) e bs h =
      let q = first (one t s at) (λ a y. and_then (many one next end k (next t a) s y) (λ ys z. got (a ∷ ys) z)) (x ∷ xs) e h in
      let r = first (many one next end k (next t q.value) s q.next) (λ ys z. got (q.value ∷ ys) z) (x ∷ xs) e q.then in
      let vx : q.value ≡ x = cc in
      let vs : r.value ≡ xs = cc in
      let ve : r.next ≡ e = cc in
      let k₁ = (c t).back s at x q.next bs (q.reads ∙ ap (λ (a : A). got a q.next) vx) in
      let k₂ = back k (next t x) s q.next xs e bs (ap (λ (a : A). many one next end k (next t a) s q.next) (sym vx) ∙ r.reads ∙ cc) in
      let u : write_many w (x ∷ xs) ≡ w x ++ write_many w xs = unfold write_many in refl in
      let d₁ : drop at s ≡ w x ++ drop q.next s = k₁.1 in
      let d₂ : drop q.next s ≡ write_many w xs ++ drop e s = k₂.1 in
      let n₁ : q.next ≡ at + length (w x) = k₁.2 in
      let n₂ : e ≡ q.next + length (write_many w xs) = k₂.2 in
      ((k₁.0, k₂.0), cc (append_assoc (w x) (write_many w xs) (drop e s)), omega (arith, length-append (w x) (write_many w xs), ap length u))

  bytes : (k : ℕ) (t : T) (xs : List A) → Each ok next met k t xs → Bytes (write_many w xs)
  unfolding write_many
  bytes zero t xs o = (l t).bytes xs o
  bytes (suc k) t [] o = absurd o
  bytes (suc k) t (x ∷ xs) o = both_bytes (w x) (write_many w xs) ((c t).bytes x o.0) (bytes k (next t x) xs o.1)

  pub each : (k : ℕ) (t : T) → Codec (many one next end k t) (write_many w) (Each ok next met k t)
  each k t = record { there = there k t; back = back k t; bytes = bytes k t }

  -- as many values as were asked for, where the end takes none
  pub each_length : ((t : T) (xs : List A) → met t xs → xs ≡ []) → (k : ℕ) (t : T) (xs : List A) → Each ok next met k t xs → length xs ≡ k
  each_length n zero t xs o = ap length (n t xs o)
  each_length n (suc k) t [] o = absurd o
  each_length n (suc k) t (x ∷ xs) o = ap suc (each_length n k (next t x) xs o.1)

-- the first values of an array that they were laid over
pub take_sets : {A : Type 0} (l xs : List A) (n : ℕ) → length xs ≡ n → n ≤ length l → take n (sets l 0 xs) ≡ xs
take_sets l xs n e h = rw (sets-eq xs l 0 (omega arith)) (take_at xs _ n e)

-- values laid over an array, of which the first n are written
pub laid : {A : Type 0} {r : Reader (List A)} {w : List A → List ℕ} {ok : List A → Type 0} (l : List A) (n : ℕ) → ((xs : List A) → ok xs → length xs ≡ n) → n ≤ length l → Codec r w ok → Codec (λ s at. into l 0 (r s at)) (λ us. w (take n us)) (λ us. ok (take n us) × (us ≡ sets l 0 (take n us)))
laid {A} {r} {w} {ok} l n long h c = record {
  there = λ us o s at post g.
      rw (c.there (take n us) o.0 s at post g) (ap (λ (x : List A). got x (at + length (w (take n us)))) (sym o.1));
  back = λ s at us e bs g.
      let f = through (r s at) us e g in
      let k = c.back s at f.0 e bs f.1 in
      let t : f.0 ≡ take n us = sym (take_sets l f.0 n (long f.0 k.0) h) ∙ ap (take n) f.2 in
      ((subst ok t k.0, sym f.2 ∙ ap (sets l 0) t), k.1 ∙ cc, k.2 ∙ ap (λ (x : List A). at + length (w x)) t);
  bytes = λ us o. c.bytes (take n us) o.0;
}
  where
    through : (r : Read (List A)) (us : List A) (e : ℕ) → into l 0 r ≡ got us e → (xs : List A) × (r ≡ got xs e) × (sets l 0 xs ≡ us)
    through (got xs x) us e g = (xs, (let y : x ≡ e = cc in ap (got xs) y), cc)
    through (refused m q) us e g = absurd (let z : ◌≡◌ {A = ℕ} 0 1 = cc in omega arith)
