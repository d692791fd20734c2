-- The kerb's tests (21 and 26), vertex by vertex, and what they say of each.
use Prim.Native.Nat.{ℕ, zero, suc, ◌+◌, ◌≤◌, ◌<◌}
use mathlib.Core.Path.{◌≡◌, refl, sym, ◌∙◌, ap, subst}
use mathlib.Core.Bool.{Bool, true, false, ◌&&◌}
use native.Mathlib.Omega.{arith}
use native.Mathlib.Numerals.{add-one}
use native.Mathlib.Decide.{dec_lt}
use borrow.Author.Tests.{leb-true}
use lib.Dec.{leb, lit≤}
use lib.ListN.{length, take, drop}
use lib.Seq.{drop-cons}
use lib.IntN.{ℤ, pos, nat_abs}
use Rattle.std.specs.List.{list_all, zip}
use Rattle.exact.proofs.Sizes.{within_more}
use Rattle.number.specs.Field.{size_at_most}
use Rattle.std.proofs.lemmas.Bool.{and_parts, and_from}
use Rattle.job.specs.Allowed.{between}
use Rattle.touching.specs.Touch.{OnMap}
use Rattle.kerb_line.specs.Kerb.{KerbRuns, vertex_at, kerb_lent, vertex_sound, kerb_sound}
use Rattle.kerb_line.specs.Inner.{VertexLent}

-- a vertex by its two coordinates
abbrev pub vertex_sound_at : ℤ × ℤ → Bool
vertex_sound_at p = vertex_sound (record { x = p.0; y = p.1 })

module _ (k : KerbRuns) where
  -- a kerb that is lent has a vertex, and its runs have room for all
  pub lent_some : (n : ℕ) → kerb_lent n k ≡ true → (1 ≤ n) × (n ≤ 500)
  unfolding kerb_lent
  lent_some n e =
      let h = and_parts (between 1 500 n) (leb n (length k.xs) && leb n (length k.ys)) e in
      let r = and_parts (leb 1 n) (leb n 500) h.0 in
      (leb-true 1 n r.0, leb-true n 500 r.1)

  pub lent_room : (n : ℕ) → kerb_lent n k ≡ true → (n ≤ length k.xs) × (n ≤ length k.ys)
  unfolding kerb_lent
  lent_room n e =
      let h = and_parts (between 1 500 n) (leb n (length k.xs) && leb n (length k.ys)) e in
      let r = and_parts (leb n (length k.xs)) (leb n (length k.ys)) h.1 in
      (leb-true n (length k.xs) r.0, leb-true n (length k.ys) r.1)

  pub vertex_lent : (n i : ℕ) → kerb_lent n k ≡ true → i < n → VertexLent i k
  vertex_lent n i e l = let r = lent_room n e in record { xs = omega (arith, r.0); ys = omega (arith, r.1) }

  pub sound_none : kerb_sound 0 k ≡ true
  unfolding kerb_sound
  sound_none = refl

  pub sound_next : (i : ℕ) → kerb_sound i k ≡ true → vertex_sound (vertex_at k i) ≡ true → kerb_sound (i + 1) k ≡ true
  unfolding kerb_sound
  sound_next i e s = rw add-one (and_from _ _ e s)

  -- one vertex more decides with those before it
  sound_more : (a : ℕ) → kerb_sound (suc a) k ≡ (kerb_sound a k && vertex_sound (vertex_at k a))
  unfolding kerb_sound
  sound_more a = refl

  -- the vertices from a on, after those before it, are the whole
  sound_from : (n a : ℕ) → a + n ≤ length k.xs → a + n ≤ length k.ys → (kerb_sound a k && list_all vertex_sound_at (zip (take n (drop a k.xs)) (take n (drop a k.ys)))) ≡ kerb_sound (a + n) k
  sound_from zero a hx hy = end (kerb_sound a k) ∙ ap (λ j. kerb_sound j k) (let e : a ≡ a + 0 = omega arith in e)
    where
      end : (t : Bool) → (t && true) ≡ t
      end true = refl
      end false = refl
  sound_from (suc n) a hx hy =
      let rest = list_all vertex_sound_at (zip (take n (drop (suc a) k.xs)) (take n (drop (suc a) k.ys))) in
      rw (drop-cons k.xs a (pos 0) (omega (arith, hx)), drop-cons k.ys a (pos 0) (omega (arith, hy)))
      (joined (kerb_sound a k) (vertex_sound (vertex_at k a)) rest
      ∙ ap (λ t. t && rest) (sym (sound_more a)) ∙ sound_from n (suc a) (omega (arith, hx)) (omega (arith, hy)) ∙ ap (λ j. kerb_sound j k) (let e : suc a + n ≡ a + suc n = omega arith in e))
    where
      joined : (x y z : Bool) → (x && (y && z)) ≡ ((x && y) && z)
      joined true y z = refl
      joined false y z = refl

  -- the vertices in a row, tested one by one
  pub sound_one_by_one : (n : ℕ) → n ≤ length k.xs → n ≤ length k.ys → list_all vertex_sound_at (zip (take n k.xs) (take n k.ys)) ≡ kerb_sound n k
  sound_one_by_one n hx hy =
      let all = list_all vertex_sound_at (zip (take n k.xs) (take n k.ys)) in
      sym (ap (λ t. t && all) sound_none) ∙ sound_from n 0 (omega (arith, hx)) (omega (arith, hy)) ∙ ap (λ j. kerb_sound j k) (let e : 0 + n ≡ n = omega arith in e)

  pub sound_at : (n i : ℕ) → kerb_sound n k ≡ true → i < n → vertex_sound (vertex_at k i) ≡ true
  unfolding kerb_sound
  sound_at zero i e h = absurd (omega arith)
  sound_at (suc n) i e h =
      let q = and_parts (kerb_sound n k) (vertex_sound (vertex_at k n)) e in
      last_or (dec_lt i n) h (sound_at n i q.0) q.1
    where
      last_or : Dec (i < n) → i < suc n → (i < n → vertex_sound (vertex_at k i) ≡ true) → vertex_sound (vertex_at k n) ≡ true → vertex_sound (vertex_at k i) ≡ true
      last_or (yes l) h below last = below l
      last_or (no f) h below last = let same : n ≡ i = omega arith in subst (λ (j : ℕ). vertex_sound (vertex_at k j) ≡ true) same last

  pub unsound : (n i : ℕ) → i < n → vertex_sound (vertex_at k i) ≡ false → kerb_sound n k ≡ false
  unsound n i h e = by (kerb_sound n k) refl
    where
      by : (t : Bool) → kerb_sound n k ≡ t → t ≡ false
      by true q = sym (sound_at n i q h) ∙ e
      by false q = refl

  -- each vertex of a sound kerb lies near the map
  pub on_map : (n i : ℕ) → kerb_sound n k ≡ true → i < n → OnMap (vertex_at k i)
  on_map n i e h =
      let v = vertex_at k i in
      let q = and_parts (size_at_most 150000000 v.x) (size_at_most 150000000 v.y) (sound_at n i e h) in
      record {
        x = within_more (lit≤ tt) (record { size = leb-true (nat_abs v.x) 150000000 q.0 });
        y = within_more (lit≤ tt) (record { size = leb-true (nat_abs v.y) 150000000 q.1 });
      }
