-- The path's test (26), station by station, and what it says of each. Assumes nothing.
use Prim.Native.Nat.{ℕ, zero, suc, ◌+◌, ◌<◌}
use mathlib.Core.Path.{◌≡◌, refl, sym, ◌∙◌, ap, subst}
use mathlib.Core.Bool.{Bool, true, false, ◌&&◌}
use native.Mathlib.Omega.{arith}
use native.Mathlib.Numerals.{add-one}
use native.Mathlib.Decide.{dec_lt}
use borrow.Author.Tests.{leb-true, le-leb}
use lib.IntN.{pos, nat_abs}
use Rattle.std.specs.List.{list_all, range_with_len}
use Rattle.number.specs.Field.{size_at_most}
use Rattle.std.proofs.lemmas.Bool.{and_parts, and_from}
use Rattle.plane.specs.Length.{heading_length, in_box, has_length}
use Rattle.plane.proofs.Lengths.{near_of, of_near}
use Rattle.path.specs.declared.Station.{Station}
use Rattle.path.specs.Laying.{PathRuns, SoundStation, room_for}
use Rattle.path.proofs.StoreLaws.{room}
use Rattle.walk.specs.Drawn.{station_at}
use Rattle.walk.specs.Tests.{station_sound, path_sound}
use Rattle.walk.specs.TestRequires.{StationLent}

-- the test of 26, by the box that a position lies in
pub sound_by_box : (s : Station) → station_sound s ≡ (in_box s.position (pos 150000000) && has_length s.heading heading_length)
unfolding in_box station_sound
sound_by_box s = grouped (size_at_most 150000000 s.position.x) (size_at_most 150000000 s.position.y) (has_length s.heading heading_length)
  where
    grouped : (a b c : Bool) → (a && (b && c)) ≡ ((a && b) && c)
    grouped true b c = refl
    grouped false b c = refl

-- it lets just the sound stations pass
pub sound_station : (s : Station) → station_sound s ≡ true → SoundStation s
unfolding station_sound
sound_station s e =
    let y = size_at_most 150000000 s.position.y in
    let g = has_length s.heading heading_length in
    let p = and_parts (size_at_most 150000000 s.position.x) (y && g) e in
    let q = and_parts y g p.1 in
    record {
      x = record { size = leb-true (nat_abs s.position.x) 150000000 p.0 };
      y = record { size = leb-true (nat_abs s.position.y) 150000000 q.0 };
      heading = near_of s.heading heading_length q.1;
    }

pub passes : (s : Station) → SoundStation s → station_sound s ≡ true
unfolding station_sound
passes s k =
    and_from _ _ (le-leb (nat_abs s.position.x) 150000000 k.x.size)
    (and_from _ _ (le-leb (nat_abs s.position.y) 150000000 k.y.size) (of_near s.heading heading_length k.heading))

module _ (p : PathRuns) where
  pub path_none : path_sound 0 p ≡ true
  unfolding path_sound
  path_none = refl

  -- one station more
  pub path_next : (i : ℕ) → path_sound i p ≡ true → station_sound (station_at p i) ≡ true → path_sound (i + 1) p ≡ true
  unfolding path_sound
  path_next i e s = rw add-one (and_from _ _ e s)

  pub all_sound : (n : ℕ) → ((i : ℕ) → i < n → station_sound (station_at p i) ≡ true) → path_sound n p ≡ true
  unfolding path_sound
  all_sound zero h = refl
  all_sound (suc n) h = and_from _ _ (all_sound n (λ i l. h i (omega arith))) (h n (omega arith))

  -- one station more decides with those before it
  path_more : (a : ℕ) → path_sound (a + 1) p ≡ (path_sound a p && station_sound (station_at p a))
  unfolding path_sound
  path_more a = rw add-one refl

  -- the stations from a on, after those before it, are the whole
  sound_from : (n a : ℕ) → (path_sound a p && list_all (λ i. station_sound (station_at p i)) (range_with_len a n)) ≡ path_sound (a + n) p
  sound_from zero a = end (path_sound a p) ∙ ap (λ k. path_sound k p) (let e : a ≡ a + 0 = omega arith in e)
    where
      end : (t : Bool) → (t && true) ≡ t
      end true = refl
      end false = refl
  sound_from (suc n) a =
      let rest = list_all (λ i. station_sound (station_at p i)) (range_with_len (a + 1) n) in
      joined (path_sound a p) (station_sound (station_at p a)) rest
      ∙ ap (λ t. t && rest) (sym (path_more a)) ∙ sound_from n (a + 1) ∙ ap (λ k. path_sound k p) (let e : a + 1 + n ≡ a + suc n = omega arith in e)
    where
      joined : (x y z : Bool) → (x && (y && z)) ≡ ((x && y) && z)
      joined true y z = refl
      joined false y z = refl

  -- the stations in a row, tested one by one
  pub sound_one_by_one : (n : ℕ) → list_all (λ i. station_sound (station_at p i)) (range_with_len 0 n) ≡ path_sound n p
  sound_one_by_one n =
      let all = list_all (λ i. station_sound (station_at p i)) (range_with_len 0 n) in
      sym (ap (λ t. t && all) path_none) ∙ sound_from n 0 ∙ ap (λ k. path_sound k p) (let e : 0 + n ≡ n = omega arith in e)

  path_at : (n i : ℕ) → path_sound n p ≡ true → i < n → station_sound (station_at p i) ≡ true
  unfolding path_sound
  path_at zero i e h = absurd (omega arith)
  path_at (suc n) i e h =
      let q = and_parts (path_sound n p) (station_sound (station_at p n)) e in
      last_or (dec_lt i n) h (path_at n i q.0) q.1
    where
      last_or : Dec (i < n) → i < suc n → (i < n → station_sound (station_at p i) ≡ true) → station_sound (station_at p n) ≡ true → station_sound (station_at p i) ≡ true
      last_or (yes l) h below last = below l
      last_or (no f) h below last = let same : n ≡ i = omega arith in subst (λ (k : ℕ). station_sound (station_at p k) ≡ true) same last

  -- each station of a sound path is sound
  pub path_station : (n i : ℕ) → path_sound n p ≡ true → i < n → SoundStation (station_at p i)
  path_station n i e h = sound_station (station_at p i) (path_at n i e h)

  -- one station that is not sound makes the path unsound
  pub path_unsound : (n i : ℕ) → i < n → station_sound (station_at p i) ≡ false → path_sound n p ≡ false
  path_unsound n i h e = by (path_sound n p) refl
    where
      by : (t : Bool) → path_sound n p ≡ t → t ≡ false
      by true k = sym (path_at n i k h) ∙ e
      by false k = refl

  -- a station below those that the runs have room for
  pub station_lent : (n i : ℕ) → room_for n p ≡ true → i < n → StationLent i p
  station_lent n i e h =
      let r = room n p e in
      record { xs = omega (arith, r.0); ys = omega (arith, r.1); gxs = omega (arith, r.2); gys = omega (arith, r.3) }
