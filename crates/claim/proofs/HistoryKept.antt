-- Every station of a walk's path has kept just what the made steps gave it.
use Prim.Native.Nat.{ℕ, ◌≤◌, ◌<◌}
use mathlib.Core.Path.{◌≡◌, refl, sym, ◌∙◌, ap, subst}
use mathlib.Core.Bool.{Bool, true, false, ◌||◌}
use mathlib.Core.List.{List, [], ◌∷◌, map}
use native.Mathlib.Nat as NatL
use lib.Pow.{pow_pos}
use lib.ListN.{length}
use Rattle.job.specs.declared.Vehicle.{Vehicle}
use Rattle.path.specs.declared.Station.{Station}
use Rattle.path.specs.Laying.{PathRuns}
use Rattle.walk.specs.declared.Walk.{Walk}
use Rattle.walk.specs.Drawn.{Drawn, view, Call, station_at, Outcome, made, refused, refused_at}
use Rattle.walk.specs.Rig.{Stepped, draw_step}
use Rattle.marks.specs.Count.{point_count}
use Rattle.marks.specs.Marks.{has_bit}
use Rattle.marks.proofs.AllSet.{all_set_lem, each_set}
use Rattle.points.proofs.PointLaws.{points_count}
use Rattle.reaches.specs.declared.Cell.{Cell}
use Rattle.reaches.specs.Cells.{Reaches, cell_at, cleared_cell, cleared}
use Rattle.reaches.specs.Crossing.{crossed_from, crossed}
use Rattle.reaches.specs.Widest.{complete}
use Rattle.reaches.specs.Inner.{Room}
use Rattle.reaches.proofs.CellLaws.{SameLengths, cell_below, stations_lengths, lengths_of_lem, same_room}
use Rattle.walk.specs.Tests.{lent, path_sound, vehicle_sound}
use Rattle.walk.specs.Rig.{drawn_start}
use Rattle.walk.proofs.VehicleTests.{units_counted}
use Rattle.stations.proofs.Entering.{room_of}
use Rattle.stations.specs.Placing.{call_of, place_refusal, unless_refused, start_heading}
use Rattle.run.proofs.WalkingLaws.{same_call}
use Rattle.run.proofs.CourseLaws.{vehicle_stays}
use Rattle.claim.proofs.CallsKept.{none_refused, passed}
use Rattle.stations.specs.Stepping.{points_at, if_made, StepEnsures}
use Rattle.claim.specs.DemandThree.{Turn, Chain}
use Rattle.claim.specs.StationHistory.{Moves, moves_in, made_moves, ever_crossed, entering, least_of, greatest_of, AllCrossed, Kept, History, place_call, left_by, MadeOver, runs_left, Lawful, moves_of, runs_of}
use Rattle.claim.proofs.HistoryLaws.{KeptFrom, kept_none, kept_more}

-- a drawn rig has its vehicle's points
pub points_there : (v : Vehicle) → v.count ≤ 4 → (s : Drawn) → s.vehicle ≡ v → (c : Call) → length (points_at s c) ≡ point_count v
points_there v u s e c = points_count s.vehicle (rw e u) s.vectors _ ∙ ap point_count e

-- the record that a call leaves shows the drawn rig's next state
next_state : (s : Drawn) (w : Walk) → view w ≡ s → (t : Turn) → StepEnsures w t.call t.before t.result t.after → view t.result.walk ≡ (draw_step s t.call).state
next_state s w e t k = ap (λ (z : Stepped). z.state) (k.stepped ∙ ap (λ (x : Drawn). draw_step x t.call) e)

same_as_itself : {r : Reaches} → SameLengths r r
same_as_itself = record { left = refl; right = refl; marks = refl }

module _ (asked : ℕ) (path : PathRuns) where
  -- either way each run keeps its length, so room stays
  lengths_after : (o : Outcome) (m : Moves) (r after : Reaches) → after ≡ if_made o (crossed asked path m.olds m.news r) r → SameLengths after r
  lengths_after made m r after e = lengths_of_lem (λ j c. crossed_from 0 (station_at path j) m.olds m.news c) asked r e
  lengths_after (refused x) m r after e = rw e same_as_itself
  lengths_after (refused_at x u) m r after e = rw e same_as_itself

  -- what a made call does to the runs, in the drawn rig's words
  made_runs : (s : Drawn) (w : Walk) → view w ≡ s → (r : Reaches) (t : Turn) → StepEnsures w t.call t.before t.result t.after → t.before ≡ r → t.call ≡ call_of asked path r
      → t.after ≡ if_made (draw_step s t.call).answer (crossed asked path (moves_in s t.call).olds (moves_in s t.call).news r) r
  made_runs s w e r t k b c =
      let f : Drawn → Call → Reaches → Reaches =
      λ x y z. if_made (draw_step x t.call).answer (crossed y.asked y.path (points_at x t.call) (points_at (draw_step x t.call).state t.call) z) z in
      k.runs ∙ ap (λ (x : Drawn). f x t.call t.before) e ∙ ap (λ (y : Call). f s y t.before) c ∙ ap (f s (call_of asked path r)) b

  -- and any call, made or refused
  runs_after_lem : (s : Drawn) (w : Walk) → view w ≡ s → (r : Reaches) (t : Turn) → StepEnsures w t.call t.before t.result t.after
      → (t.result.answer ≡ made → (t.before ≡ r) × (t.call ≡ call_of asked path r))
      → left_by r t ≡ if_made (draw_step s t.call).answer (crossed asked path (moves_in s t.call).olds (moves_in s t.call).news r) r
  runs_after_lem s w e r t k g = by t.result.answer refl ∙ ap (λ (o : Outcome). if_made o x r) same
    where
      x : Reaches
      x = crossed asked path (moves_in s t.call).olds (moves_in s t.call).news r

      same : t.result.answer ≡ (draw_step s t.call).answer
      same = ap (λ (z : Stepped). z.answer) k.stepped ∙ ap (λ (y : Drawn). (draw_step y t.call).answer) e

      by : (o : Outcome) → t.result.answer ≡ o → if_made o t.after r ≡ if_made o x r
      by made q = made_runs s w e r t k (g q).0 (g q).1 ∙ ap (λ (o : Outcome). if_made o x r) (sym same ∙ q)
      by (refused n) q = refl
      by (refused_at n u) q = refl

  -- all calls
  pub lengths_left : (s : Drawn) (w : Walk) → view w ≡ s → (r : Reaches) (ts : List Turn) → Chain w ts → MadeOver asked path r ts → SameLengths (runs_left r ts) r
  unfolding Chain MadeOver runs_left
  lengths_left s w e r [] k g = same_as_itself
  lengths_left s w e r (t ∷ ts) k g =
      let c = draw_step s t.call in
      let rest = lengths_left c.state t.result.walk (next_state s w e t k.0) (left_by r t) ts k.1 g.1 in
      let here = lengths_after c.answer (moves_in s t.call) r (left_by r t) (runs_after_lem s w e r t k.0 g.0) in
      record { left = rest.left ∙ here.left; right = rest.right ∙ here.right; marks = rest.marks ∙ here.marks }

-- a station
module _ (v : Vehicle) (u : v.count ≤ 4) (asked : ℕ) (path : PathRuns) (i : ℕ) (h : i < asked) where
  abbrev points : ℕ
  points = point_count v

  abbrev here : Station
  here = station_at path i

  -- one call, made or refused, and those after it
  pub after_call : (o : Outcome) (m : Moves) (ms : List Moves) (r after : Reaches) (end : Cell) → Room asked r → length m.olds ≡ points → length m.news ≡ points
      → after ≡ if_made o (crossed asked path m.olds m.news r) r → KeptFrom points here ms (cell_at i after) end → KeptFrom points here (if_made o (m ∷ ms) ms) (cell_at i r) end
  after_call made m ms r after end room n k e kept =
      kept_more points here m ms (cell_at i r) end n k
      (subst (λ (x : Cell). KeptFrom points here ms x end) (ap (cell_at i) e ∙ cell_below (λ j c. crossed_from 0 (station_at path j) m.olds m.news c) r asked i h room) kept)
  after_call (refused x) m ms r after end room n k e kept = subst (λ (q : Reaches). KeptFrom points here ms (cell_at i q) end) e kept
  after_call (refused_at x u) m ms r after end room n k e kept = subst (λ (q : Reaches). KeptFrom points here ms (cell_at i q) end) e kept

  pub walked : (s : Drawn) → s.vehicle ≡ v → (w : Walk) → view w ≡ s → (r : Reaches) → Room asked r → (ts : List Turn) → Chain w ts → MadeOver asked path r ts
      → KeptFrom points here (made_moves s (map (λ (t : Turn). t.call) ts)) (cell_at i r) (cell_at i (runs_left r ts))
  unfolding Chain MadeOver made_moves runs_left
  walked s q w e r room [] k g = kept_none points here (cell_at i r)
  walked s q w e r room (t ∷ ts) k g =
      let q' = vehicle_stays s t.call ∙ q in
      let m = moves_in s t.call in
      let a = runs_after_lem asked path s w e r t k.0 g.0 in
      let o = (draw_step s t.call).answer in
      after_call o m _ r (left_by r t) _ room (points_there v u s q t.call) (points_there v u (draw_step s t.call).state q' t.call) a
      (walked (draw_step s t.call).state q' t.result.walk (next_state s w e t k.0) (left_by r t) (same_room (lengths_after asked path o m r (left_by r t) a) room) ts k.1 g.1)

-- a cleared mark has no bit
no_bit : (p : ℕ) → has_bit p 0 ≡ false
no_bit p = rw (NatL.div-eq_of_lt (pow_pos p)) refl

nothing_set : (p : ℕ) (t : Bool) → (t || has_bit p 0) ≡ t
nothing_set p true = refl
nothing_set p false = no_bit p

-- an accepted placement was lent its runs
placed_lent : (v : Vehicle) (c : Call) → place_refusal v c ≡ 0 → lent c ≡ true
unfolding place_refusal
placed_lent v c e = (passed (lent c) (path_sound c.asked c.path) (vehicle_sound v) e).0

placed_vehicle : (v : Vehicle) (c : Call) → place_refusal v c ≡ 0 → vehicle_sound v ≡ true
unfolding place_refusal
placed_vehicle v c e = (passed (lent c) (path_sound c.asked c.path) (vehicle_sound v) e).2

-- bits for just the points that crossed: the station is complete just where the whole rig has crossed it
module _ (n : ℕ) (s : Station) (ms : List Moves) (c : Cell) (bit : (p : ℕ) → p < n → has_bit p c.mark ≡ ever_crossed p s ms) where
  only_whole_lem : AllCrossed n s ms → complete n c ≡ true
  only_whole_lem a = all_set_lem c.mark n (λ p l. bit p l ∙ a p l)

  is_whole : complete n c ≡ true → AllCrossed n s ms
  is_whole w p l = sym (bit p l) ∙ each_set c.mark n w p l

-- from a cleared cell
pub from_cleared : (n : ℕ) (s : Station) (ms : List Moves) (c0 c : Cell) → c0 ≡ cleared_cell → KeptFrom n s ms c0 c → Kept n s ms c
from_cleared n s ms c0 c e k =
    let bit : (p : ℕ) → p < n → has_bit p c.mark ≡ ever_crossed p s ms =
    λ p l. k.bits p l ∙ ap (λ (x : Cell). ever_crossed p s ms || has_bit p x.mark) e ∙ nothing_set p (ever_crossed p s ms) in
    record {
      bits = bit;
      left = k.left ∙ ap (λ (x : Cell). least_of x.left (entering s ms)) e;
      right = k.right ∙ ap (λ (x : Cell). greatest_of x.right (entering s ms)) e;
      whole = is_whole n s ms c bit;
      only_whole = only_whole_lem n s ms c bit;
    }

-- runs that were cleared have room, and each station asked for is cleared
module _ (asked : ℕ) (before after : Reaches) (room : Room asked before) (a : after ≡ cleared asked before) where
  pub cleared_room : Room asked after
  cleared_room = subst (Room asked) (sym a) (same_room (stations_lengths (λ j c. cleared_cell) asked before) room)

  pub cleared_cell_lem : (i : ℕ) → i < asked → cell_at i after ≡ cleared_cell
  cleared_cell_lem i h = ap (cell_at i) a ∙ cell_below (λ j c. cleared_cell) before asked i h room

-- an accepted placement: nothing refused it, so the record is the drawn rig's start and the runs are cleared
module _ (h : History) (l : Lawful h) where
  abbrev start : Drawn
  start = drawn_start h.vehicle (start_heading (place_call h))

  pub none : place_refusal h.vehicle (place_call h) ≡ 0
  none = none_refused (place_refusal h.vehicle (place_call h)) (sym l.placement.answered ∙ l.accepted)

  pub call_lent : lent (place_call h) ≡ true
  call_lent = placed_lent h.vehicle (place_call h) none

  pub units : h.vehicle.count ≤ 4
  units = (units_counted h.vehicle (placed_vehicle h.vehicle (place_call h) none)).1

  pub starts : view h.placing.walk ≡ start
  starts = l.placement.placed ∙ ap (λ (k : ℕ). unless_refused k start (view h.walk)) none

  pub clears : h.after ≡ cleared h.asked h.before
  clears = l.placement.runs ∙ ap (λ (k : ℕ). unless_refused k (cleared h.asked h.before) h.before) none

  pub kept : (i : ℕ) → i < h.asked → Kept (point_count h.vehicle) (station_at h.path i) (moves_of h) (cell_at i (runs_of h))
  kept i b =
      let room = room_of h.asked h.path h.before call_lent in
      from_cleared _ _ _ _ _ (cleared_cell_lem h.asked h.before h.after room clears i b)
      (walked h.vehicle units h.asked h.path i b start refl h.placing.walk starts h.after (cleared_room h.asked h.before h.after room clears) h.turns l.chain l.over)

  -- the runs are lent to `widest` as they were to the placement
  pub left_lent : lent (call_of h.asked h.path (runs_of h)) ≡ true
  left_lent =
      let a = lengths_left h.asked h.path start h.placing.walk starts h.after h.turns l.chain l.over in
      let b = lengths_of_lem (λ i c. cleared_cell) h.asked h.before clears in
      rw (same_call h.asked h.path a, same_call h.asked h.path b) call_lent

-- a refused call
pub left_as_was : (w : Walk) (t : Turn) → StepEnsures w t.call t.before t.result t.after → (t.result.answer ≡ made → ⊥) → t.after ≡ t.before
left_as_was w t k n = k.runs ∙ by _ (draw_step (view w) t.call).answer (ap (λ (z : Stepped). z.answer) k.stepped)
  where
    by : (x : Reaches) (o : Outcome) → t.result.answer ≡ o → if_made o x t.before ≡ t.before
    by x made q = absurd (n q)
    by x (refused m) q = refl
    by x (refused_at m u) q = refl
