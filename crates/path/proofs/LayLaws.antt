-- Laying station by station: what is left to write, over what is written, is the whole path.
use Prim.Native.Nat.{ℕ, ◌+◌, ◌*◌, ◌≤◌, ◌<◌}
use mathlib.Core.Path.{◌≡◌, refl, sym, ◌∙◌, ap}
use mathlib.Core.Bool.{Bool, true, false}
use mathlib.Core.List.{List, [], ◌∷◌, map}
use native.Mathlib.Omega.{arith}
use native.Mathlib.Numerals.{add-one}
use native.Mathlib.Decide.{dec_le}
use borrow.Author.Tests.{leb-true, ltb-true, le-leb}
use lib.Dec.{leb, ltb}
use lib.ListN.{length, get_or, length-set}
use lib.Seq.{sets}
use lib.IntN.{pos, ◌*ℤ◌}
use Rattle.std.proofs.lemmas.Bool.{and_parts}
use Rattle.std.proofs.lemmas.List.{nil_from_length}
use Rattle.exact.specs.Size.{Within}
use Rattle.exact.proofs.Sizes.{within_more}
use Rattle.number.specs.Read.{pick}
use Rattle.plane.specs.Length.{heading_length, Near}
use Rattle.job.specs.declared.Element.{Element}
use Rattle.job.specs.Allowed.{length_allowed, curve_allowed, element_allowed}
use Rattle.job.specs.Empty.{empty_element}
use Rattle.path.specs.declared.Station.{Station}
use Rattle.path.specs.declared.PathCursor.{PathCursor}
use Rattle.path.specs.Stations.{Step, steps_on, station_after, next_station, stations_from}
use Rattle.path.specs.Cursor.{step_length, cursor_after, OnElement}
use Rattle.path.specs.Laying.{PathRuns, stored, room_for, Storable, Layable}
use Rattle.path.proofs.StationLaws.{heading_kept, position_within}
use Rattle.path.proofs.StoreLaws.{room}
use Rattle.path.proofs.TotalLaws.{total_count}
use Rattle.path.proofs.CursorLaws.{step_length_lem, reachable}
use Rattle.path.proofs.LeftLaws.{steps_left, left_all, steps_next, steps_none}

-- stations written from entry k on
abbrev pub written_at : ℕ → List Station → PathRuns → PathRuns
written_at k ps r = record {
  xs = sets r.xs k (map (λ (p : Station). p.position.x) ps);
  ys = sets r.ys k (map (λ (p : Station). p.position.y) ps);
  gxs = sets r.gxs k (map (λ (p : Station). p.heading.x) ps);
  gys = sets r.gys k (map (λ (p : Station). p.heading.y) ps);
}

pub written_next : (k : ℕ) (p : Station) (ps : List Station) (r : PathRuns) → written_at k (p ∷ ps) r ≡ written_at (k + 1) ps (stored k p r)
written_next k p ps r = ap (λ (n : ℕ). written_at n ps (stored k p r)) (sym (add-one k))

-- one step more of the stations
written_step : (k : ℕ) (p q : Station) (h : Step) (ss : List Step) (r : PathRuns) → q ≡ next_station p h → written_at (k + 1) (stations_from q ss) (stored k q r) ≡ written_at k (stations_from p (h ∷ ss)) r
unfolding stations_from
written_step k p q h ss r e = sym (written_next k q (stations_from q ss) r) ∙ ap (λ (z : Station). written_at k (z ∷ stations_from z ss) r) e

-- runs of the same lengths
pub record SameLengths (r q : PathRuns) : Type 0 where
  pub xs : length r.xs ≡ length q.xs
  pub ys : length r.ys ≡ length q.ys
  pub gxs : length r.gxs ≡ length q.gxs
  pub gys : length r.gys ≡ length q.gys

pub stored_lengths : (i : ℕ) (p : Station) (r q : PathRuns) → SameLengths r q → SameLengths (stored i p r) q
stored_lengths i p r q s = record {
  xs = simp length-set s.xs;
  ys = simp length-set s.ys;
  gxs = simp length-set s.gxs;
  gys = simp length-set s.gys;
}

-- room for fewer, in runs of the same lengths
pub room_for_fewer : (n m : ℕ) (r q : PathRuns) → SameLengths r q → n ≤ m → room_for m q ≡ true → room_for n r ≡ true
room_for_fewer n m r q s h e =
    let k = room m q e in
    let a = le-leb n (length r.xs) (omega (arith, k.0, s.xs)) in
    let b = le-leb n (length r.ys) (omega (arith, k.1, s.ys)) in
    let c = le-leb n (length r.gxs) (omega (arith, k.2, s.gxs)) in
    let d = le-leb n (length r.gys) (omega (arith, k.3, s.gys)) in
    rw (a, b, c, d)

pub same_lengths : {r : PathRuns} → SameLengths r r
same_lengths = record { xs = refl; ys = refl; gxs = refl; gys = refl }

-- a station written leaves the room
pub room_stored : (n i : ℕ) (p : Station) (r q : PathRuns) → q ≡ stored i p r → room_for n r ≡ true → room_for n q ≡ true
room_stored n i p r q e h = room_for_fewer n n q r (rw e (stored_lengths i p r r same_lengths)) (omega arith) h

-- the elements in use, as a list of their own, and their steps
pub record Usable (step steps : ℕ) (es : List Element) : Type 0 where
  pub least : 100 ≤ step
  pub most : step ≤ 20000
  pub few : steps ≤ 2000
  pub places : length es ≤ 64
  pub all : (k : ℕ) → k < length es → element_allowed (get_or es k empty_element) ≡ true
  pub counted : steps ≡ length (steps_on step es)

pub usable : {step steps : ℕ} {es : List Element} {p : Station} {r : PathRuns} → Layable step steps es p r → Usable step steps es
usable {step} {steps} {es} y = record {
  least = y.accepted.least;
  most = y.accepted.most;
  few = omega (arith, y.counted, y.accepted.total);
  places = y.accepted.places;
  all = y.accepted.allowed;
  counted = omega (arith, y.counted, total_count step 0 es);
}

-- after i steps: the cursor c, the runs r; `whole` is what they come to
pub record Laying (step steps : ℕ) (es : List Element) (whole start : PathRuns) (c : PathCursor) (i : ℕ) (r : PathRuns) : Type 0 where
  pub same : written_at (i + 1) (stations_from c.station (steps_left step es c)) r ≡ whole
  pub left : i + length (steps_left step es c) ≡ steps
  pub inside : c.element < length es → c.before < (get_or es c.element empty_element).length
  pub heading : Near c.station.heading heading_length (pos 2 *ℤ heading_length)
  pub place : Within (100000000 + 20000 * i) c.station.position.x × Within (100000000 + 20000 * i) c.station.position.y
  pub lengths : SameLengths r start

-- the two places where a step can leave the cursor
after_cases : (step : ℕ) (e : Element) (c : PathCursor) (P : PathCursor → Type 0) →
    let s = step_length e.length c.before step in
    let p = station_after c.station e.curve s in
    (c.before + s < e.length → P (record { element = c.element; before = c.before + s; station = p }))
    → P (record { element = c.element + 1; before = 0; station = p })
    → P (cursor_after step e c)
unfolding cursor_after
after_cases step e c P yes' no' = by (ltb (c.before + s) e.length) refl
  where
    s : ℕ
    s = step_length e.length c.before step

    p : Station
    p = station_after c.station e.curve s

    by : (t : Bool) → ltb (c.before + s) e.length ≡ t → P (pick t (record { element = c.element; before = c.before + s; station = p }) (record { element = c.element + 1; before = 0; station = p }))
    by true t = yes' (ltb-true (c.before + s) e.length t)
    by false t = no'

-- an element that was let pass is at least a tick long
element_length : (x : Element) → element_allowed x ≡ true → 1 ≤ x.length
element_length x a = leb-true 1 x.length (and_parts (leb 1 x.length) (leb x.length 40000000) (and_parts (length_allowed x.length) (curve_allowed x.curve) a).0).0

-- one step more
module _ {step steps : ℕ} {es : List Element} {whole start : PathRuns} {c : PathCursor} {i : ℕ} {r : PathRuns} (u : Usable step steps es) (l : Laying step steps es whole start c i r) (more : i < steps) where
  abbrev e : Element
  e = get_or es c.element empty_element

  abbrev s : ℕ
  s = step_length e.length c.before step

  abbrev next : PathCursor
  next = cursor_after step e c

  -- there is an element to go along
  pub on_path : c.element < length es
  on_path = by (dec_le (length es) c.element)
    where
      by : Dec (length es ≤ c.element) → c.element < length es
      by (yes h) = absurd (omega (arith, ap length (steps_none step es c h), l.left))
      by (no h) = omega arith

  pub on_element : OnElement step e c
  on_element =
      let b : 100000000 + 20000 * i ≤ 2000000000 = omega (arith, u.few) in
      record {
        inside = l.inside on_path;
        place = record { x = within_more b l.place.0; y = within_more b l.place.1 };
        heading = l.heading;
        curve = (and_parts (length_allowed e.length) (curve_allowed e.curve) (u.all c.element on_path)).1;
        least = omega (arith, u.least);
        most = u.most;
        element = omega (arith, on_path, u.places);
      }

  station_next : next.station ≡ station_after c.station e.curve s
  station_next = after_cases step e c (λ q. q.station ≡ station_after c.station e.curve s) (λ h. refl) refl

  abbrev here : Step
  here = record { curve = e.curve; cut = record { before = c.before; length = s } }

  split : steps_left step es c ≡ here ∷ steps_left step es next
  split = steps_next step es c (omega (arith, u.least)) on_path (l.inside on_path)

  inside_next : next.element < length es → next.before < (get_or es next.element empty_element).length
  inside_next = after_cases step e c (λ q. q.element < length es → q.before < (get_or es q.element empty_element).length) (λ h k. h) (λ k. element_length (get_or es (c.element + 1) empty_element) (u.all (c.element + 1) k))

  place_next : Within (100000000 + 20000 * (i + 1)) next.station.position.x × Within (100000000 + 20000 * (i + 1)) next.station.position.y
  place_next =
      let w = position_within c.station e.curve s (reachable step e c on_element) (100000000 + 20000 * i) l.place in
      let b : 100000000 + 20000 * i + s ≤ 100000000 + 20000 * (i + 1) = omega (arith, (step_length_lem step e c on_element).1, u.most) in
      rw station_next (within_more b w.0, within_more b w.1)

  pub laying_next : Laying step steps es whole start next (i + 1) (stored (i + 1) next.station r)
  laying_next = record {
    same =
        written_step (i + 1) c.station next.station here (steps_left step es next) r station_next
        ∙ ap (λ (ss : List Step). written_at (i + 1) (stations_from c.station ss) r) (sym split) ∙ l.same;
    left = omega (arith, ap length split, l.left);
    inside = inside_next;
    heading = rw station_next (heading_kept c.station e.curve s (reachable step e c on_element));
    place = place_next;
    lengths = stored_lengths (i + 1) next.station r start l.lengths;
  }

  pub storable_next : room_for (steps + 1) start ≡ true → Storable (i + 1) next.station r
  storable_next h =
      let b : 100000000 + 20000 * (i + 1) ≤ 150000000 = omega (arith, u.few) in
      record {
        room = room_for_fewer (i + 1 + 1) (steps + 1) r start l.lengths (omega arith) h;
        station = record { x = within_more b place_next.0; y = within_more b place_next.1; heading = laying_next.heading };
      }

-- before the first step
pub laying_start : {step steps : ℕ} {es : List Element} (p : Station) (r : PathRuns) → Usable step steps es
    → Near p.heading heading_length (pos 2 *ℤ heading_length) → Within 100000000 p.position.x × Within 100000000 p.position.y
    → Laying step steps es (written_at 1 (stations_from p (steps_on step es)) r) r (record { element = 0; before = 0; station = p }) 0 r
laying_start {step} {steps} {es} p r u h w = record {
  same = ap (λ (ss : List Step). written_at 1 (stations_from p ss) r) (left_all step es);
  left = omega (arith, ap length (left_all step es), u.counted);
  inside = λ k. element_length (get_or es 0 empty_element) (u.all 0 k);
  heading = h;
  place = w;
  lengths = record { xs = refl; ys = refl; gxs = refl; gys = refl };
}

-- after the last
nothing_left : (k : ℕ) (p : Station) (r : PathRuns) → written_at k (stations_from p []) r ≡ r
unfolding stations_from
nothing_left k p r = refl

pub laying_end : {step steps : ℕ} {es : List Element} {whole start : PathRuns} {c : PathCursor} {i : ℕ} {r : PathRuns} → Laying step steps es whole start c i r → steps ≤ i → r ≡ whole
laying_end {step} {steps} {es} {whole} {start} {c} {i} {r} l h =
    let none : steps_left step es c ≡ [] = nil_from_length (steps_left step es c) (omega (arith, l.left)) in
    sym (nothing_left (i + 1) c.station r) ∙ ap (λ (ss : List Step). written_at (i + 1) (stations_from c.station ss) r) (sym none) ∙ l.same
