-- The widest place of runs whose stations have kept what the moves gave them is that of the moves.
use Prim.Native.Nat.{ℕ, ◌<◌}
use mathlib.Core.Path.{◌≡◌, refl, sym, ◌∙◌, ap, ap₂, subst}
use mathlib.Core.Bool.{true, false}
use mathlib.Core.List.{List}
use native.Mathlib.Decide.{dec_lt}
use native.Mathlib.Omega.{arith}
use lib.IntN.{ℤ, ◌-ℤ◌}
use lib.Signed.{◌≤ℤ◌, ◌<ℤ◌, clash_ℤ}
use Rattle.std.specs.Prelude.{Option, None, Some}
use Rattle.marks.specs.Count.{point_count}
use Rattle.path.specs.declared.Station.{Station}
use Rattle.path.specs.Laying.{PathRuns}
use Rattle.walk.specs.Drawn.{view, station_at}
use Rattle.reaches.specs.declared.Place.{Place}
use Rattle.refusal.specs.Numbers.{Answer}
use Rattle.refusal.specs.Numbers as W
use Rattle.reaches.specs.Cells.{Reaches, cell_at}
use Rattle.reaches.specs.Widest.{width, widest_among, answer_of, widest_answer, IsWidest as IsWidestIn}
use Rattle.reaches.proofs.WidestLaws.{Right, among_right}
use Rattle.claim.specs.StationHistory.{Moves, left_of, right_of, Kept, History, Lawful, moves_of, runs_of}
use Rattle.claim.specs.WidestHistory.{last_of, width_of, IsWidest, NoneWhole, Tells}
use Rattle.claim.proofs.HistoryKept.{kept, left_lent}
use Rattle.claim.proofs.RecordKept.{end_sound, end_vehicle}
use Rattle.claim.proofs.RunKept.{read_off}

-- the widest is one
module _ (n asked : ℕ) (path : PathRuns) (ms : List Moves) where
  not_before : (p q : Place) → IsWidest n asked path ms p → IsWidest n asked path ms q → p.station < q.station → ⊥
  not_before p q a b l =
      clash_ℤ (subst (λ (z : ℤ). z <ℤ q.width) (sym a.width) (b.earliest p.station l a.whole))
      (subst (λ (z : ℤ). z ≤ℤ p.width) (sym b.width) (a.greatest q.station b.inside b.whole))

  same_station : (p q : Place) → IsWidest n asked path ms p → IsWidest n asked path ms q → p.station ≡ q.station
  same_station p q a b = by (dec_lt p.station q.station) (dec_lt q.station p.station)
    where
      by : Dec (p.station < q.station) → Dec (q.station < p.station) → p.station ≡ q.station
      by (yes l) m = absurd (not_before p q a b l)
      by (no l) (yes m) = absurd (not_before q p b a m)
      by (no l) (no m) = omega arith

  pub unique : (p q : Place) → IsWidest n asked path ms p → IsWidest n asked path ms q → p ≡ q
  unique p q a b =
      let e = same_station p q a b in
      let at : (f : Station → List Moves → ℤ) → f (station_at path p.station) ms ≡ f (station_at path q.station) ms = λ f. ap (λ (i : ℕ). f (station_at path i) ms) e in
      let w = a.width ∙ at width_of ∙ sym b.width in
      let l = a.left ∙ at left_of ∙ sym b.left in
      let r = a.right ∙ at right_of ∙ sym b.right in
      λ i. record { station = e i; width = w i; left = l i; right = r i }

  -- the best place, told from the moves
  abbrev RightOf : Option Place → Type 0
  RightOf None = NoneWhole n asked path ms
  RightOf (Some p) = IsWidest n asked path ms p

  -- any answer with a case for a place and one for none
  module _ {A : Type 0} (at : Place → A) (none : A) (inside : (p q : Place) → at p ≡ at q → p ≡ q) (apart : (p : Place) → at p ≡ none → ⊥) where
    abbrev answered_by : Option Place → A
    answered_by None = none
    answered_by (Some p) = at p

    tells_one : (b : Option Place) → RightOf b → Tells at none n asked path ms (answered_by b)
    tells_one None h = record {
      place = λ p e. absurd (apart p (sym e));
      only_place = λ p w. absurd (h p.station w.inside w.whole);
      nowhere = λ e. h;
      only_nowhere = λ n. refl;
      no_other = λ n. refl;
    }
    tells_one (Some q) h = record {
      place = λ p e. subst (IsWidest n asked path ms) (inside q p e) h;
      only_place = λ p w. ap at (unique q p h w);
      nowhere = λ e. absurd (apart q e);
      only_nowhere = λ n. absurd (n q.station h.inside h.whole);
      no_other = λ n. absurd (n q refl);
    }

    -- and a function that answers so
    pub tells : (f : Option Place → A) → f None ≡ none → ((p : Place) → f (Some p) ≡ at p) → (b : Option Place) → RightOf b → Tells at none n asked path ms (f b)
    tells f o p b h = subst (Tells at none n asked path ms) (same b) (tells_one b h)
      where
        same : (x : Option Place) → answered_by x ≡ f x
        same None = sym o
        same (Some q) = sym (p q)

  -- runs that have kept it all
  module _ (r : Reaches) (k : (i : ℕ) → i < asked → Kept n (station_at path i) ms (cell_at i r)) where
    width_kept : (i : ℕ) → i < asked → width (cell_at i r) ≡ width_of (station_at path i) ms
    width_kept i l = ap₂ (λ (x y : ℤ). x -ℤ y) (k i l).right (k i l).left

    found_right : (p : Place) → IsWidestIn n asked r p → IsWidest n asked path ms p
    found_right p h =
        let c = k p.station h.inside in
        record {
          inside = h.inside;
          whole = c.whole h.whole;
          left = ap (λ (x : Place). x.left) h.read ∙ c.left;
          right = ap (λ (x : Place). x.right) h.read ∙ c.right;
          width = ap (λ (x : Place). x.width) h.read ∙ width_kept p.station h.inside;
          greatest = λ i l a. subst (λ (z : ℤ). z ≤ℤ p.width) (width_kept i l) (h.greatest i l ((k i l).only_whole a));
          earliest = λ i l a. let b : i < asked = let m = h.inside in omega arith in subst (λ (z : ℤ). z <ℤ p.width) (width_kept i b) (h.earliest i l ((k i b).only_whole a));
        }

    best_right : (b : Option Place) → Right n asked r b → RightOf b
    best_right None h = λ i l a. let z : true ≡ false = sym ((k i l).only_whole a) ∙ h i l in absurd (let y : ◌≡◌ {A = ℕ} 0 1 = cc in omega arith)
    best_right (Some p) h = found_right p h

    among_told : RightOf (widest_among n asked r)
    among_told = best_right (widest_among n asked r) (among_right n asked r)

    -- as a run answers it, and as `widest` does
    pub best_tells : Tells Some None n asked path ms (widest_among n asked r)
    best_tells = tells Some None (λ p q e. cc) (λ p e. let y : ◌≡◌ {A = ℕ} 0 1 = cc in omega arith) (λ b. b) refl (λ p. refl) (widest_among n asked r) among_told

    pub answer_tells : Tells W.answered (W.refused 24) n asked path ms (answer_of (widest_among n asked r))
    answer_tells = tells W.answered (W.refused 24) (λ p q e. cc) (λ p e. let y : ◌≡◌ {A = ℕ} 0 1 = cc in omega arith) answer_of refl (λ p. refl) (widest_among n asked r) among_told

pub asked_told : (h : History) → Lawful h → (answer : Answer Place) → answer ≡ widest_answer (view (last_of h)) h.asked (runs_of h)
    → Tells W.answered (W.refused 24) (point_count h.vehicle) h.asked h.path (moves_of h) answer
asked_told h l answer e =
    let q = sym (e ∙ sym (read_off h.vehicle (view (last_of h)) h.asked h.path (runs_of h) (end_vehicle h l) (end_sound h l) (left_lent h l))) in
    subst (Tells W.answered (W.refused 24) (point_count h.vehicle) h.asked h.path (moves_of h)) q (answer_tells (point_count h.vehicle) h.asked h.path (moves_of h) (runs_of h) (kept h l))
