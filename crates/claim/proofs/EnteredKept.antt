-- Every reach that enters a station lies inside the cleared values, so left and right are reaches that entered.
use Prim.Native.Nat.{ℕ, zero, suc, ◌≤◌, ◌<◌}
use mathlib.Core.Path.{◌≡◌, refl, sym, ◌∙◌, ap, subst}
use mathlib.Core.Bool.{Bool, true, false, ◌||◌}
use mathlib.Core.List.Memᴰ
use mathlib.Core.List.{List, [], ◌∷◌, map, Memᴰ}
use native.Mathlib.Omega.{arith}
use lib.ListN.{length, get_or}
use lib.IntN.{ℤ}
use lib.Signed.{◌<ℤ◌, lt_z, lt_z_yes, <ℤ-≤ℤ_trans, clash_ℤ}
use Rattle.exact.specs.Size.{Within}
use Rattle.exact.proofs.Order.{of_true, lt_z_false}
use Rattle.exact.proofs.Sizes.{≤-size, ≥-size}
use Rattle.number.specs.Read.{pick}
use Rattle.plane.specs.declared.Vec2.{Vec2}
use Rattle.job.specs.declared.Vehicle.{Vehicle}
use Rattle.path.specs.declared.Station.{Station}
use Rattle.path.specs.Laying.{SoundStation}
use Rattle.walk.specs.declared.Walk.{Walk}
use Rattle.walk.specs.Drawn.{Drawn, Call, station_at, Outcome, made, refused, refused_at}
use Rattle.walk.specs.Tests.{lent, path_sound, vehicle_sound}
use Rattle.walk.specs.Rig.{zero_vector, drawn_start, draw_step}
use Rattle.walk.proofs.PathTests.{path_station}
use Rattle.points.specs.Requires.{RigAt}
use Rattle.reaches.specs.Cells.{cleared_cell}
use Rattle.reaches.specs.Crossing.{reach_of, crosses}
use Rattle.reaches.specs.Inner.{SizedPoint}
use Rattle.reaches.proofs.ReachSizes.{reach_inside}
use Rattle.stations.specs.Placing.{place_refusal, start_heading}
use Rattle.stations.specs.Stepping.{if_made}
use Rattle.marks.specs.Count.{point_count}
use Rattle.stations.proofs.Entering.{enterable, sized}
use Rattle.run.proofs.CourseLaws.{vehicle_stays}
use Rattle.claim.specs.DemandThree.{Turn}
use Rattle.claim.specs.StationHistory.{Moves, moves_in, made_moves, ever_crossed, entering_in, entering, left_of, right_of, Extremes, History, place_call, Lawful, moves_of}
use Rattle.claim.proofs.CallsKept.{passed}
use Rattle.claim.proofs.DrawnCalls.{made_open, one_on}
use Rattle.claim.proofs.HistoryKept.{points_there, none, units}
use Rattle.claim.proofs.EnteredLaws.{extremes}

-- moves of n points, each of a size to be measured
pub record SizedMoves (n : ℕ) (m : Moves) : Type 0 where
  pub olds : length m.olds ≡ n
  pub news : length m.news ≡ n
  pub old : (p : ℕ) → SizedPoint (get_or m.olds p zero_vector)
  pub new : (p : ℕ) → SizedPoint (get_or m.news p zero_vector)

abbrev AllSized : ℕ → List Moves → Type 0
AllSized n [] = Unit {0}
AllSized n (m ∷ ms) = SizedMoves n m × AllSized n ms

-- the record that shows a state
abbrev record_of : Drawn → Walk
record_of s = record { vehicle = s.vehicle; station = s.station; d = s.vectors }

made_sized : (v : Vehicle) → v.count ≤ 4 → (s : Drawn) → s.vehicle ≡ v → (c : Call) → length s.vehicle.units ≡ 4 → (draw_step s c).answer ≡ made → SizedMoves (point_count v) (moves_in s c)
made_sized v u s q c n m =
    let t = (draw_step s c).state in
    let e = enterable (record_of s) (record_of t) c n (made_open s c m) refl in
    let f : RigAt t.vehicle t.vectors (station_at c.path t.station).position =
    subst (λ (k : ℕ). RigAt t.vehicle t.vectors (station_at c.path k).position) (sym (one_on s c m)) e.after in
    record { olds = points_there v u s q c; news = points_there v u t (vehicle_stays s c ∙ q) c; old = sized e.before; new = sized f }

all_sized : (v : Vehicle) → v.count ≤ 4 → (s : Drawn) → s.vehicle ≡ v → (cs : List Call) → length s.vehicle.units ≡ 4 → AllSized (point_count v) (made_moves s cs)
unfolding made_moves
all_sized v u s e [] n = tt
all_sized v u s e (c ∷ cs) n =
    let t = (draw_step s c).state in
    by (draw_step s c).answer refl (all_sized v u t (vehicle_stays s c ∙ e) cs (ap (λ (v : Vehicle). length v.units) (vehicle_stays s c) ∙ n))
  where
    by : (o : Outcome) → (draw_step s c).answer ≡ o → AllSized (point_count v) (made_moves (draw_step s c).state cs)
        → AllSized (point_count v) (if_made o (moves_in s c ∷ made_moves (draw_step s c).state cs) (made_moves (draw_step s c).state cs))
    by made q h = (made_sized v u s e c n q, h)
    by (refused k) q h = h
    by (refused_at k u) q h = h

-- a point that crossed: a reach of its own entered, inside the cleared values
pub record Entered (s : Station) (ms : List Moves) : Type 0 where
  pub reach : ℤ
  pub among : Memᴰ reach (entering s ms)
  pub size : Within 1999999999 reach

crossed_in : (s : Station) (olds news : List Vec2) (p : ℕ) → p < length olds → p < length news → crosses s (get_or olds p zero_vector) (get_or news p zero_vector) ≡ true
    → Memᴰ (reach_of s (get_or olds p zero_vector)) (entering_in s olds news)
unfolding entering_in
crossed_in s [] news p h k e = absurd (omega arith)
crossed_in s (a ∷ olds) [] p h k e = absurd (omega arith)
crossed_in s (a ∷ olds) (b ∷ news) zero h k e = rw e (Memᴰ.head refl)
crossed_in s (a ∷ olds) (b ∷ news) (suc p) h k e = by (crosses s a b) (crossed_in s olds news p (omega arith) (omega arith) e)
  where
    by : {x : ℤ} (t : Bool) → Memᴰ x (entering_in s olds news) → Memᴰ x (pick t (reach_of s a ∷ reach_of s b ∷ entering_in s olds news) (entering_in s olds news))
    by true m = Memᴰ.tail (Memᴰ.tail m)
    by false m = m

some_entered : (n : ℕ) (s : Station) → SoundStation s → (ms : List Moves) → AllSized n ms → (p : ℕ) → p < n → ever_crossed p s ms ≡ true → Entered s ms
unfolding ever_crossed entering
some_entered n s g [] a p h e = absurd (let z : ◌≡◌ {A = ℕ} 0 1 = cc in omega arith)
some_entered n s g (m ∷ ms) a p h e = by (crosses s (get_or m.olds p zero_vector) (get_or m.news p zero_vector)) refl e (λ f. some_entered n s g ms a.1 p h f)
  where
    by : (t : Bool) → crosses s (get_or m.olds p zero_vector) (get_or m.news p zero_vector) ≡ t → (t || ever_crossed p s ms) ≡ true → (ever_crossed p s ms ≡ true → Entered s ms) → Entered s (m ∷ ms)
    by true q e rest =
        let x = a.0 in
        record {
          reach = reach_of s (get_or m.olds p zero_vector);
          among = Memᴰ.append_left (entering s ms) (crossed_in s m.olds m.news p (omega (arith, x.olds)) (omega (arith, x.news)) q);
          size = reach_inside (record { station = g; point = x.old p });
        }
    by false q e rest = let y = rest e in record { reach = y.reach; among = Memᴰ.append_right (entering_in s m.olds m.news) y.among; size = y.size }

below_cleared : {x : ℤ} → Within 1999999999 x → x <ℤ cleared_cell.left
below_cleared {x} w = by (lt_z x cleared_cell.left) refl
  where
    by : (t : Bool) → lt_z x cleared_cell.left ≡ t → x <ℤ cleared_cell.left
    by true e = lt_z_yes (of_true e)
    by false e = clash_ℤ (<ℤ-≤ℤ_trans (lt_z_yes tt) (lt_z_false x cleared_cell.left e)) (≤-size w)

above_cleared : {x : ℤ} → Within 1999999999 x → cleared_cell.right <ℤ x
above_cleared w = <ℤ-≤ℤ_trans (lt_z_yes tt) (≥-size w)

placed_path : (h : History) → Lawful h → path_sound h.asked h.path ≡ true
unfolding place_refusal
placed_path h l = (passed (lent (place_call h)) (path_sound h.asked h.path) (vehicle_sound h.vehicle) (none h l)).1

pub entered : (h : History) → Lawful h → length h.vehicle.units ≡ 4 → (i : ℕ) → i < h.asked → let s = station_at h.path i in
    (p : ℕ) → p < point_count h.vehicle → ever_crossed p s (moves_of h) ≡ true → Extremes (entering s (moves_of h)) (left_of s (moves_of h)) (right_of s (moves_of h))
entered h l n i b p k e =
    let s = station_at h.path i in
    let g = path_station h.path h.asked i (placed_path h l) b in
    let x = some_entered (point_count h.vehicle) s g (moves_of h) (all_sized h.vehicle (units h l) (drawn_start h.vehicle (start_heading (place_call h))) refl (map (λ (t : Turn). t.call) h.turns) n) p k e in
    extremes cleared_cell.left cleared_cell.right (entering s (moves_of h)) x.reach x.among (below_cleared x.size) (above_cleared x.size)
