-- The walk to the end of a path, a step at a time: a made step leaves a walk that can go on, a refused one ends it.
use Prim.Native.Nat.{ℕ, suc, ◌+◌, ◌-◌, ◌≤◌, ◌<◌}
use mathlib.Core.Path.{◌≡◌, refl, sym, ◌∙◌, ap, subst}
use mathlib.Core.Bool.{true}
use native.Mathlib.Omega.{arith}
use borrow.Author.Tests.{lt-leb}
use Rattle.path.specs.Laying.{PathRuns}
use Rattle.walk.specs.declared.Walk.{Walk}
use Rattle.walk.specs.Moving.{Advanced}
use Rattle.walk.specs.Drawn.{Drawn, view, Call, Outcome, made, refused, refused_at}
use Rattle.walk.specs.Tests.{record_sound}
use Rattle.walk.specs.Units.{Turning, turned, stopped}
use Rattle.walk.specs.Rig.{Stepped, turning_of, after_turning, draw_step}
use Rattle.walk.proofs.SoundKept.{record_kept}
use Rattle.reaches.specs.Cells.{Reaches}
use Rattle.reaches.specs.Crossing.{crossed, crossed_from}
use Rattle.reaches.proofs.CellLaws.{SameLengths, stations_lengths}
use Rattle.walk.specs.Drawn.{station_at}
use Rattle.stations.specs.Placing.{call_of}
use Rattle.stations.specs.Stepping.{points_at, if_made, StepEnsures}
use Rattle.stations.specs.Inner.{Open}
use Rattle.stations.proofs.CallLaws.{last_is, step_open}
use Rattle.stations.proofs.StepLaws.{unit_not_made}
use Rattle.run.specs.Walking.{Course, walk_on, steps_left, walk_to_end, course_of, Going}

-- a call is the same where the runs have the same lengths
pub same_call : (asked : ℕ) (path : PathRuns) {a b : Reaches} → SameLengths a b → call_of asked path a ≡ call_of asked path b
same_call asked path s =
    let l = s.left in
    let r = s.right in
    let m = s.marks in
    λ i. record { asked = asked; path = path; reaches = record { left = l i; right = r i; marks = m i } }

-- a walk that is not at the last station passes every test before 22
pub is_open : (s : Drawn) (c : Call) → Going s c → s.station + 1 < c.asked → Open s c
is_open s c g h = record { lent = g.lent; path = g.path; rig = g.rig; not_last = last_is c.asked s ∙ lt-leb c.asked (s.station + 1) h }

-- a made step
after_made : (s : Drawn) (c : Call) → Open s c → (t : Turning) → turning_of s c ≡ t → (after_turning s t).answer ≡ made
    → (record_sound c.asked (after_turning s t).state ≡ true) × ((after_turning s t).state.station ≡ s.station + 1)
after_made s c o (turned ds) e m = (record_kept s c ds o.rig o.not_last e, refl)
after_made s c o (stopped n u) e m = absurd (unit_not_made n u m)

pub made_step_lem : (s : Drawn) (c : Call) → Open s c → (draw_step s c).answer ≡ made
    → (record_sound c.asked (draw_step s c).state ≡ true) × ((draw_step s c).state.station ≡ s.station + 1)
made_step_lem s c o m =
    let e = step_open s c o in
    rw e (after_made s c o (turning_of s c) refl (sym (ap (λ (t : Stepped). t.answer) e) ∙ m))

-- the walk, by how its next step goes
module _ (asked : ℕ) (path : PathRuns) where
  pub at_end : (s : Drawn) (r : Reaches) → asked ≤ s.station + 1 → walk_to_end asked path s r ≡ record { answer = made; state = s; runs = r }
  unfolding walk_on
  at_end s r h = let e : steps_left asked s ≡ 0 = omega arith in rw e refl

  pub next_step_lem : (s : Drawn) (r : Reaches) → s.station + 1 < asked → let c = call_of asked path r in
      walk_to_end asked path s r ≡ if_made (draw_step s c).answer
      (walk_on (asked - (s.station + 2)) asked path (draw_step s c).state (crossed asked path (points_at s c) (points_at (draw_step s c).state c) r))
      (record { answer = (draw_step s c).answer; state = (draw_step s c).state; runs = r })
  unfolding walk_on
  next_step_lem s r h = let e : steps_left asked s ≡ suc (asked - (s.station + 2)) = omega arith in rw e refl

  -- one call of the program's step from a walk that can go on
  module _ (w : Walk) (r : Reaches) (res : Advanced) (after : Reaches) (h : w.station + 1 < asked) (k : StepEnsures w (call_of asked path r) r res after) where
    abbrev c : Call
    c = call_of asked path r

    drawn_answer : res.answer ≡ (draw_step (view w) c).answer
    drawn_answer = ap (λ (t : Stepped). t.answer) k.stepped

    drawn_state : view res.walk ≡ (draw_step (view w) c).state
    drawn_state = ap (λ (t : Stepped). t.state) k.stepped

    -- either way each run keeps its length
    lengths_by : (o : Outcome) → SameLengths (if_made o (crossed asked path (points_at (view w) c) (points_at (draw_step (view w) c).state c) r) r) r
    lengths_by made = stations_lengths (λ i. crossed_from 0 (station_at path i) (points_at (view w) c) (points_at (draw_step (view w) c).state c)) asked r
    lengths_by (refused n) = record { left = refl; right = refl; marks = refl }
    lengths_by (refused_at n u) = record { left = refl; right = refl; marks = refl }

    pub same_lengths : SameLengths after r
    same_lengths = subst (λ (x : Reaches). SameLengths x r) (sym k.runs) (lengths_by (draw_step (view w) c).answer)

    -- refused
    left_alone : (o : Outcome) (x y : Course) (a : Reaches) → o ≡ (draw_step (view w) c).answer → (o ≡ made → ⊥) → if_made (draw_step (view w) c).answer x y ≡ y × (if_made (draw_step (view w) c).answer a r ≡ r)
    left_alone made x y a e n = absurd (n refl)
    left_alone (refused m) x y a e n = (rw (← e) refl, rw (← e) refl)
    left_alone (refused_at m u) x y a e n = (rw (← e) refl, rw (← e) refl)

    pub stopped_here : (res.answer ≡ made → ⊥) → course_of res after ≡ walk_to_end asked path (view w) r
    stopped_here n =
        let p = left_alone (res.answer) _ (record { answer = (draw_step (view w) c).answer; state = (draw_step (view w) c).state; runs = r }) _ drawn_answer n in
        let a = drawn_answer in
        let s = drawn_state in
        let q = k.runs ∙ p.1 in
        let e : course_of res after ≡ record { answer = (draw_step (view w) c).answer; state = (draw_step (view w) c).state; runs = r } = λ i. record { answer = a i; state = s i; runs = q i } in
        e ∙ sym (next_step_lem (view w) r h ∙ p.0)

    -- made
    module _ (m : res.answer ≡ made) where
      is_made_lem : (draw_step (view w) c).answer ≡ made
      is_made_lem = sym drawn_answer ∙ m

      entered : after ≡ crossed asked path (points_at (view w) c) (points_at (draw_step (view w) c).state c) r
      entered = k.runs ∙ ap (λ (o : Outcome). if_made o (crossed asked path (points_at (view w) c) (points_at (draw_step (view w) c).state c) r) r) is_made_lem

      module _ (g : Going (view w) c) where
        pub one_on : res.walk.station ≡ w.station + 1
        one_on = ap (λ (s : Drawn). s.station) drawn_state ∙ (made_step_lem (view w) c (is_open (view w) c g h) is_made_lem).1

        pub still_going : Going (view res.walk) (call_of asked path after)
        still_going =
            let e = same_call asked path same_lengths in
            let q = (made_step_lem (view w) c (is_open (view w) c g h) is_made_lem).0 in
            subst (Going (view res.walk)) (sym e) (record { lent = g.lent; path = g.path; rig = subst (λ (s : Drawn). record_sound asked s ≡ true) (sym drawn_state) q })

        pub goes_on : walk_to_end asked path (view res.walk) after ≡ walk_to_end asked path (view w) r
        goes_on =
            let n : steps_left asked (view res.walk) ≡ asked - (w.station + 2) = let e = one_on in omega arith in
            let f : Drawn → Reaches → Course = walk_on (asked - (w.station + 2)) asked path in
            let inner : Outcome → Course = λ o. if_made o (f (draw_step (view w) c).state (crossed asked path (points_at (view w) c) (points_at (draw_step (view w) c).state c) r)) (record { answer = (draw_step (view w) c).answer; state = (draw_step (view w) c).state; runs = r }) in
            ap (λ (x : ℕ). walk_on x asked path (view res.walk) after) n ∙ ap (λ (s : Drawn). f s after) drawn_state ∙ ap (f (draw_step (view w) c).state) entered
            ∙ sym (next_step_lem (view w) r h ∙ ap inner is_made_lem)
