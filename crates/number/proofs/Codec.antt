-- Reading what was written and writing what was read, for readers put together as the specification puts them together. Assumes nothing.
use Prim.Native.Nat.{ℕ, zero, suc, ◌+◌}
use mathlib.Core.Path.{◌≡◌, refl, sym, ◌∙◌, ap, subst}
use mathlib.Core.List.{List, [], ◌∷◌, ◌++◌, append_assoc}
use mathlib.Core.Bool.{Bool, true, false}
use native.Mathlib.Omega.{arith}
use native.Mathlib.Nat.{add-zero}
use lib.ListN.{length, drop, length-append}
use lib.Seq.{drop-drop, drop-append_seam}
use Rattle.number.specs.Read.{Bytes, Read, got, refused, Reader, pick, and_then, ◌>>=◌, return, here, unless}

-- bytes and more bytes
pub both_bytes : (s t : List ℕ) → Bytes s → Bytes t → Bytes (s ++ t)
both_bytes [] t p q i = q i
both_bytes (b ∷ s) t p q zero = p 0
both_bytes (b ∷ s) t p q (suc i) = both_bytes s t (λ n. p (suc n)) q i

-- r reads what w writes, which are bytes, and what r reads w writes; ok is what a value that was read meets
pub record Codec {A : Type 0} (r : Reader A) (w : A → List ℕ) (ok : A → Type 0) : Type 0 where
  pub there : (a : A) → ok a → (s : List ℕ) (at : ℕ) (post : List ℕ) → drop at s ≡ w a ++ post → r s at ≡ got a (at + length (w a))
  pub back : (s : List ℕ) (at : ℕ) (a : A) (e : ℕ) → Bytes s → r s at ≡ got a e → ok a × (drop at s ≡ w a ++ drop e s) × (e ≡ at + length (w a))
  pub bytes : (a : A) → ok a → Bytes (w a)

-- past a part that was read
pub past : (s p q : List ℕ) (at : ℕ) → drop at s ≡ p ++ q → drop (at + length p) s ≡ q
past s p q at h = sym (drop-drop (length p) at s) ∙ ap (drop (length p)) h ∙ drop-append_seam p q

-- the first value, where a reading of two has come through
pub record First {A B : Type 0} (r : Read A) (f : A → ℕ → Read B) (b : B) (e : ℕ) : Type 0 where
  pub value : A
  pub next : ℕ
  pub reads : r ≡ got value next
  pub then : f value next ≡ got b e

pub first : {A B : Type 0} (r : Read A) (f : A → ℕ → Read B) (b : B) (e : ℕ) → and_then r f ≡ got b e → First r f b e
first (got a x) f b e h = record { value = a; next = x; reads = refl; then = h }
first (refused n p) f b e h = absurd (let z : ◌≡◌ {A = ℕ} 0 1 = cc in omega arith)

pub returned : {A : Type 0} (b : A) → Codec (return b) (λ a. []) (λ a. a ≡ b)
returned b = record {
  there = λ a o s at post h. rw (o, add-zero);
  back = λ s at a e bs h. let p : b ≡ a = cc in let q : at ≡ e = cc in (sym p, ap (λ (k : ℕ). drop k s) q, sym q ∙ sym (add-zero at));
  bytes = λ a o i. omega arith;
}

-- a value, and then a whole of which it is a part
pub bound : {A B : Type 0} {r : Reader A} {w : A → List ℕ} {ok : A → Type 0} {f : A → Reader B} {w₂ : B → List ℕ} {ok₂ : A → B → Type 0} (part : B → A) → Codec r w ok → ((a : A) → ok a → Codec (f a) w₂ (ok₂ a)) → ((a : A) (b : B) → ok₂ a b → part b ≡ a) → Codec (r >>= f) (λ b. w (part b) ++ w₂ b) (λ b. ok (part b) × ok₂ (part b) b)
bound {A} {B} {r} {w} {ok} {f} {w₂} {ok₂} part c₁ c₂ same = record {
  there = λ b o s at post h.
      let h₁ : drop at s ≡ w (part b) ++ (w₂ b ++ post) = h ∙ append_assoc (w (part b)) (w₂ b) post in
      let e : at + length (w (part b) ++ w₂ b) ≡ at + length (w (part b)) + length (w₂ b) = omega (arith, length-append (w (part b)) (w₂ b)) in
      rw (c₁.there (part b) o.0 s at (w₂ b ++ post) h₁, e)
      ((c₂ (part b) o.0).there b o.1 s (at + length (w (part b))) post (past s (w (part b)) (w₂ b ++ post) at h₁));
  back = λ s at b e bs h.
      let q = first (r s at) (λ a x. f a s x) b e h in
      let v = q.value in
      let k₁ = c₁.back s at v q.next bs q.reads in
      let k₂ = (c₂ v k₁.0).back s q.next b e bs q.then in
      let p : part b ≡ v = same v b k₂.0 in
      let d₁ : drop at s ≡ w v ++ drop q.next s = k₁.1 in
      let d₂ : drop q.next s ≡ w₂ b ++ drop e s = k₂.1 in
      let n₁ : q.next ≡ at + length (w v) = k₁.2 in
      let n₂ : e ≡ q.next + length (w₂ b) = k₂.2 in (
        (subst ok (sym p) k₁.0, subst (λ (a : A). ok₂ a b) (sym p) k₂.0),
        cc (append_assoc (w v) (w₂ b) (drop e s)),
        omega (arith, length-append (w (part b)) (w₂ b), ap (λ (a : A). length (w a)) p),
      );
  bytes = λ b o. both_bytes (w (part b)) (w₂ b) (c₁.bytes (part b) o.0) ((c₂ (part b) o.0).bytes b o.1);
}

-- the position, for a later refusal
pub placed : {A : Type 0} {f : ℕ → Reader A} {w : A → List ℕ} {ok : A → Type 0} → ((p : ℕ) → Codec (f p) w ok) → Codec (here >>= f) w ok
placed c = record {
  there = λ a o s at post h. (c at).there a o s at post h;
  back = λ s at a e bs h. (c at).back s at a e bs h;
  bytes = (c 0).bytes;
}

-- a test on the way
pub tested : {A : Type 0} {r : Reader A} {w : A → List ℕ} {ok : A → Type 0} (t : Bool) (n p : ℕ) → Codec r w ok → Codec (unless t n p r) w (λ a. (t ≡ true) × ok a)
tested {A} {r} {w} {ok} t n p c = record {
  there = λ a o s at post h. rw o.0 (c.there a o.1 s at post h);
  back = λ s at a e bs h. go t s at a e bs h;
  bytes = λ a o. c.bytes a o.1;
}
  where
    go : (u : Bool) (s : List ℕ) (at : ℕ) (a : A) (e : ℕ) → Bytes s → unless u n p r s at ≡ got a e → ((u ≡ true) × ok a) × (drop at s ≡ w a ++ drop e s) × (e ≡ at + length (w a))
    go true s at a e bs h = let k = c.back s at a e bs h in ((refl, k.0), k.1, k.2)
    go false s at a e bs h = absurd (let z : ◌≡◌ {A = ℕ} 0 1 = cc in omega arith)

-- a pick that came through
pub chosen : {B : Type 0} {y : Bool} (u : Bool) → y ≡ u → (b : B) (x n q : ℕ) (b' : B) (e : ℕ) → pick u (got b x) (refused n q) ≡ got b' e → (y ≡ true) × (b ≡ b') × (x ≡ e)
chosen true p b x n q b' e h = (p, cc, cc)
chosen false p b x n q b' e h = absurd (let z : ◌≡◌ {A = ℕ} 0 1 = cc in omega arith)

-- the last value of a whole, with a test before the whole is made
pub lastly : {A B : Type 0} {r : Reader A} {w : A → List ℕ} {ok : A → Type 0} (t : A → Bool) (n q : ℕ) (g : A → B) (part : B → A) → ((a : A) → part (g a) ≡ a) → Codec r w ok → Codec (r >>= (λ a. unless (t a) n q (return (g a)))) (λ b. w (part b)) (λ b. ok (part b) × ((t (part b) ≡ true) × (b ≡ g (part b))))
lastly {A} {B} {r} {w} {ok} t n q g part same c = record {
  there = λ b o s at post h. rw (c.there (part b) o.0 s at post h, o.1.0) (ap (λ (x : B). got x (at + length (w (part b)))) (sym o.1.1));
  back = λ s at b e bs h.
      let f = first (r s at) (λ a x. unless (t a) n q (return (g a)) s x) b e h in
      let k = c.back s at f.value f.next bs f.reads in
      let m = chosen (t f.value) refl (g f.value) f.next n q b e f.then in
      let v : f.value ≡ part b = sym (same f.value) ∙ ap part m.1 in
      let x : f.next ≡ e = m.2 in
      ((subst ok v k.0, (ap t (sym v) ∙ m.0, sym m.1 ∙ ap g v)), k.1 ∙ cc, sym x ∙ k.2 ∙ ap (λ (a : A). at + length (w a)) v);
  bytes = λ b o. c.bytes (part b) o.0;
}

-- the same bytes in other words
pub reworded : {A : Type 0} {r : Reader A} {w : A → List ℕ} {ok : A → Type 0} (w' : A → List ℕ) → ((a : A) → ok a → w a ≡ w' a) → Codec r w ok → Codec r w' ok
reworded {A} {r} {w} {ok} w' e c = record {
  there = λ a o s at post h.
      c.there a o s at post (h ∙ ap (λ (l : List ℕ). l ++ post) (sym (e a o))) ∙ ap (λ (l : List ℕ). got a (at + length l)) (e a o);
  back = λ s at a x bs h.
      let k = c.back s at a x bs h in
      (k.0, k.1 ∙ ap (λ (l : List ℕ). l ++ drop x s) (e a k.0), k.2 ∙ ap (λ (l : List ℕ). at + length l) (e a k.0));
  bytes = λ a o. subst Bytes (e a o) (c.bytes a o);
}

-- a value under a change of form, with a test at its own place
pub sifted : {A B : Type 0} {r : Reader A} {w : A → List ℕ} {ok : A → Type 0} (g : A → B) (f : B → A) (t : B → Bool) (n : ℕ) → ((b : B) → g (f b) ≡ b) → ((a : A) → f (g a) ≡ a) → Codec r w ok → Codec (λ s at. and_then (r s at) (λ a e. pick (t (g a)) (got (g a) e) (refused n at))) (λ b. w (f b)) (λ b. ok (f b) × (t b ≡ true))
sifted {A} {B} {r} {w} {ok} g f t n gf fg c = record {
  there = λ b o s at post h. rw (c.there (f b) o.0 s at post h, gf b, o.1);
  back = λ s at b e bs h.
      let q = first (r s at) (λ a x. pick (t (g a)) (got (g a) x) (refused n at)) b e h in
      let k = c.back s at q.value q.next bs q.reads in
      let m = chosen (t (g q.value)) refl (g q.value) q.next n at b e q.then in
      let v : q.value ≡ f b = sym (fg q.value) ∙ ap f m.1 in
      let x : q.next ≡ e = m.2 in
      ((subst ok v k.0, ap t (sym m.1) ∙ m.0), k.1 ∙ cc, sym x ∙ k.2 ∙ ap (λ (a : A). at + length (w a)) v);
  bytes = λ b o. c.bytes (f b) o.0;
}
