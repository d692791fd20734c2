-- Clearing the stations forgets whatever a walk had written there, so that each walk starts from the same runs.
use Prim.Native.Nat.{ℕ, zero, suc, ◌≤◌}
use mathlib.Core.Path.{◌≡◌, refl, ◌∙◌, ap}
use native.Mathlib.Omega.{arith}
use lib.Seq.{set-set, set_comm}
use Rattle.job.specs.declared.Vehicle.{Vehicle}
use Rattle.path.specs.Laying.{PathRuns}
use Rattle.walk.specs.Drawn.{Drawn, Outcome, made, refused, refused_at, station_at}
use Rattle.walk.specs.Rig.{draw_step, drawn_start}
use Rattle.reaches.specs.declared.Cell.{Cell}
use Rattle.reaches.specs.Cells.{Reaches, cell_at, store_cell, at_stations, cleared_cell, cleared}
use Rattle.reaches.specs.Crossing.{crossed, crossed_from}
use Rattle.stations.specs.Placing.{call_of}
use Rattle.stations.specs.Stepping.{points_at, if_made}
use Rattle.run.specs.Walking.{Course, walk_on, steps_left}
use Rattle.run.specs.Run.{walk_over}

-- of two cells stored at one station the later stays; at two stations they may change places
store_again : (i : ℕ) (c d : Cell) (r : Reaches) → store_cell i d (store_cell i c r) ≡ store_cell i d r
store_again i c d r = rw (set-set r.left i c.left d.left, set-set r.right i c.right d.right, set-set r.marks i c.mark d.mark)

store_apart : (i k : ℕ) (c d : Cell) (r : Reaches) → (k ≡ i → ⊥) → store_cell i d (store_cell k c r) ≡ store_cell k c (store_cell i d r)
store_apart i k c d r h = rw (set_comm r.left k i c.left d.left h, set_comm r.right k i c.right d.right h, set_comm r.marks k i c.mark d.mark h)

cleared_past : (n k : ℕ) (c : Cell) (r : Reaches) → n ≤ k → cleared n (store_cell k c r) ≡ store_cell k c (cleared n r)
unfolding at_stations
cleared_past zero k c r h = refl
cleared_past (suc n) k c r h = ap (store_cell n cleared_cell) (cleared_past n k c r (omega arith)) ∙ store_apart n k c cleared_cell (cleared n r) (λ e. omega arith)

rule_forgotten : (f : ℕ → Cell → Cell) (n : ℕ) (r : Reaches) → cleared n (at_stations f n r) ≡ cleared n r
unfolding at_stations
rule_forgotten f zero r = refl
rule_forgotten f (suc n) r =
    let s = at_stations f n r in
    ap (store_cell n cleared_cell) (cleared_past n n (f n (cell_at n s)) s (omega arith) ∙ ap (store_cell n (f n (cell_at n s))) (rule_forgotten f n r))
    ∙ store_again n (f n (cell_at n s)) cleared_cell (cleared n r)

module _ (asked : ℕ) (path : PathRuns) where
  by_answer : (o : Outcome) (a b : Course) (r : Reaches) → cleared asked a.runs ≡ r → cleared asked b.runs ≡ r → cleared asked (if_made o a b).runs ≡ r
  by_answer made a b r p q = p
  by_answer (refused n) a b r p q = q
  by_answer (refused_at n u) a b r p q = q

  course_forgotten : (n : ℕ) (s : Drawn) (r : Reaches) → cleared asked (walk_on n asked path s r).runs ≡ cleared asked r
  unfolding walk_on
  course_forgotten zero s r = refl
  course_forgotten (suc n) s r =
      let c = call_of asked path r in
      let t = draw_step s c in
      let x = crossed asked path (points_at s c) (points_at t.state c) r in
      by_answer t.answer (walk_on n asked path t.state x) (record { answer = t.answer; state = t.state; runs = r }) (cleared asked r)
      (course_forgotten n t.state x ∙ rule_forgotten (λ i. crossed_from 0 (station_at path i) (points_at s c) (points_at t.state c)) asked r)
      refl

  pub walk_forgotten : (v : Vehicle) (r : Reaches) → cleared asked (walk_over asked path v r).runs ≡ cleared asked r
  walk_forgotten v r =
      let s = drawn_start v (station_at path 0).heading in
      course_forgotten (steps_left asked s) s (cleared asked r) ∙ rule_forgotten (λ i c. cleared_cell) asked r
