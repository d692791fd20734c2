-- A finished run against the moves of the drawn rig over the path that it laid.
use Prim.Native.Nat.{ℕ, zero, suc, ◌+◌, ◌≤◌, ◌<◌}
use mathlib.Core.Path.{◌≡◌, refl, sym, ◌∙◌, ap, ap₂, subst}
use mathlib.Core.List.{List, ◌∷◌}
use native.Mathlib.Omega.{arith}
use lib.ListN.{length, replicate}
use Rattle.std.specs.Prelude.{Option, None, Some}
use Rattle.job.specs.declared.Vehicle.{Vehicle}
use Rattle.marks.specs.Count.{point_count}
use Rattle.path.specs.Stations.{stations}
use Rattle.path.specs.Laying.{PathRuns}
use Rattle.path.proofs.JobLaws.{laid_answered, stations_count}
use Rattle.walk.specs.Drawn.{Drawn, Call, station_at, Outcome, made, refused, refused_at}
use Rattle.walk.specs.Rig.{drawn_start, draw_step}
use Rattle.walk.proofs.VehicleTests.{units_counted}
use Rattle.reaches.specs.declared.Place.{Place}
use Rattle.reaches.specs.Cells.{Reaches, cell_at, cleared_cell, cleared}
use Rattle.reaches.specs.Crossing.{crossed, crossed_from}
use Rattle.reaches.specs.Widest.{widest_among}
use Rattle.reaches.specs.Inner.{Room}
use Rattle.reaches.proofs.CellLaws.{stations_lengths, same_room}
use Rattle.stations.specs.Placing.{call_of, start_heading, unless_refused}
use Rattle.stations.specs.Stepping.{if_made}
use Rattle.stations.proofs.Entering.{room_of}
use Rattle.stations.proofs.StepLaws.{refused_not_made, unit_not_made}
use Rattle.run.specs.declared.Finish.{Finish}
use Rattle.run.specs.Ran.{Ran}
use Rattle.run.specs.Ran as R
use Rattle.run.specs.Walking.{Course, walk_on, steps_left}
use Rattle.run.specs.Run.{finish_at, ran_by, ran_over, ran_answer, run_refusal, job_path, job_course}
use Rattle.run.proofs.WalkingLaws.{same_call}
use Rattle.run.proofs.CourseLaws.{vehicle_stays, course_vehicle}
use Rattle.run.proofs.RunLaws.{runnable, tests_passed}
use Rattle.claim.specs.DemandThree.{drawn_answers}
use Rattle.claim.specs.StationHistory.{moves_in, made_moves}
use Rattle.claim.specs.WholeRun.{Run, Ensured}
use Rattle.claim.specs.WidestHistory.{Tells, FinishTold}
use Rattle.claim.proofs.HistoryLaws.{KeptFrom, kept_none}
use Rattle.claim.proofs.HistoryKept.{points_there, after_call, from_cleared, cleared_cell_lem}
use Rattle.claim.proofs.DrawnCalls.{one_on}
use Rattle.claim.proofs.WidestKept.{best_tells}

module _ (asked : ℕ) (path : PathRuns) where
  -- the runs after a made call
  abbrev entered : Drawn → Call → Reaches → Reaches
  entered s c r = crossed asked path (moves_in s c).olds (moves_in s c).news r

  -- a walk all of whose calls are made: the first is, and so are the others
  first_made : (n : ℕ) (s : Drawn) (r : Reaches) → (walk_on (suc n) asked path s r).answer ≡ made
      → let c = call_of asked path r in
      ((draw_step s c).answer ≡ made) × (walk_on (suc n) asked path s r ≡ walk_on n asked path (draw_step s c).state (entered s c r))
  unfolding walk_on
  first_made n s r e = by (draw_step s c).answer refl e
    where
      c : Call
      c = call_of asked path r

      x : Course
      x = walk_on n asked path (draw_step s c).state (entered s c r)

      y : Course
      y = record { answer = (draw_step s c).answer; state = (draw_step s c).state; runs = r }

      by : (o : Outcome) → (draw_step s c).answer ≡ o → (if_made o x y).answer ≡ made → ((draw_step s c).answer ≡ made) × (if_made o x y ≡ x)
      by made q m = (q, refl)
      by (refused k) q m = absurd (refused_not_made k (sym q ∙ m))
      by (refused_at k u) q m = absurd (unit_not_made k u (sym q ∙ m))

  -- such a walk against as many calls of the drawn rig
  pub record Through (v : Vehicle) (n : ℕ) (s : Drawn) (r : Reaches) (c : Call) (w : Course) : Type 0 where
    pub station : w.state.station ≡ s.station + n
    pub answers : drawn_answers s (replicate n c) ≡ replicate n made
    pub kept : (i : ℕ) → i < asked → KeptFrom (point_count v) (station_at path i) (made_moves s (replicate n c)) (cell_at i r) (cell_at i w.runs)

  pub through : (v : Vehicle) → v.count ≤ 4 → (n : ℕ) (s : Drawn) → s.vehicle ≡ v → (r : Reaches) (c : Call) → call_of asked path r ≡ c → Room asked r → (walk_on n asked path s r).answer ≡ made → Through v n s r c (walk_on n asked path s r)
  unfolding walk_on drawn_answers made_moves
  through v u zero s g r c q room e = record { station = omega arith; answers = refl; kept = λ i h. kept_none (point_count v) (station_at path i) (cell_at i r) }
  through v u (suc n) s g r c q room e =
      let next : Call → Type 0 = λ x. ((draw_step s x).answer ≡ made) × (walk_on (suc n) asked path s r ≡ walk_on n asked path (draw_step s x).state (entered s x r)) in
      let f : next c = subst next q (first_made n s r e) in
      let t = (draw_step s c).state in
      let r' = entered s c r in
      let l = stations_lengths (λ i x. crossed_from 0 (station_at path i) (moves_in s c).olds (moves_in s c).news x) asked r in
      let g' = vehicle_stays s c ∙ g in
      let rest = through v u n t g' r' c (same_call asked path l ∙ q) (same_room l room) (sym (ap (λ (x : Course). x.answer) f.1) ∙ e) in
      subst (Through v (suc n) s r c) (sym f.1)
      (record {
        station = let a = rest.station in let b = one_on s c f.0 in omega arith;
        answers = ap₂ (λ (x : Outcome) (xs : List Outcome). x ∷ xs) f.0 rest.answers;
        kept = λ i h.
            after_call v u asked path i h (draw_step s c).answer (moves_in s c) (made_moves t (replicate n c)) r r' (cell_at i (walk_on n asked path t r').runs) room (points_there v u s g c) (points_there v u t g' c)
            (sym (ap (λ (o : Outcome). if_made o r' r) f.0)) (rest.kept i h);
      })

-- an answer that is finished: nothing was refused, every step was made, and it is told of the course
finished_answer : (a : ℕ) (y : Ran) (f : Finish) → ran_answer a y ≡ R.finished f → (a ≡ 0) × (y ≡ R.finished f)
finished_answer zero y f e = (refl, e)
finished_answer (suc a) y f e = absurd (let z : ◌≡◌ {A = ℕ} 0 1 = cc in omega arith)

finished_course : (n : ℕ) (path : PathRuns) (o : Outcome) (s : Drawn) (r : Reaches) (f : Finish) → ran_by n path o s r ≡ R.finished f → (o ≡ made) × (finish_at s.vehicle s.station n path r ≡ f)
finished_course n path made s r f e = (refl, cc)
finished_course n path (refused m) s r f e = absurd (let z : ◌≡◌ {A = ℕ} 0 1 = cc in omega arith)
finished_course n path (refused_at m u) s r f e = absurd (let z : ◌≡◌ {A = ℕ} 0 1 = cc in omega arith)

pub ran_told : (x : Run) → Ensured x → (f : Finish) → x.answer ≡ R.finished f → FinishTold x f
ran_told x h f e =
    let j = x.job in
    let n = length (stations j) in
    let laid = job_path j x.path in
    let course = job_course j x.path x.reaches in
    let call = call_of n laid x.reaches in
    let start = drawn_start j.vehicle (start_heading call) in
    let a = finished_answer (run_refusal j x.path x.reaches) (ran_over n laid course) f (sym h.answered ∙ e) in
    let b = finished_course n laid course.answer course.state course.runs f a.1 in
    let path : x.path_left ≡ laid = h.path ∙ ap (λ (m : ℕ). unless_refused m laid x.path) a.0 in
    let t = tests_passed j x.path x.reaches a.0 in
    let runs = runnable j x.path n laid (laid_answered j x.path t.0 t.1) x.reaches t.2 in
    let units = (units_counted j.vehicle runs.vehicle).1 in
    let points = point_count j.vehicle in
    let room = room_of n laid x.reaches runs.lent in
    let l = stations_lengths (λ i c. cleared_cell) n x.reaches in
    let w = through n laid j.vehicle units (steps_left n start) start refl (cleared n x.reaches) call (same_call n laid l) (same_room l room) b.0 in
    let reached : course.state.station ≡ f.steps = ap (λ (y : Finish). y.steps) b.1 in
    let steps : steps_left n start ≡ f.steps = omega (arith, w.station, reached) in
    let least = stations_count j in
    let told = best_tells points n laid (made_moves start (replicate (steps_left n start) call)) course.runs
    (λ i k. from_cleared _ _ _ _ _ (cleared_cell_lem n x.reaches (cleared n x.reaches) room refl i k) (w.kept i k)) in
    let from : PathRuns → Drawn = λ p. drawn_start j.vehicle (start_heading (call_of n p x.reaches)) in
    let calls : PathRuns → ℕ → List Call = λ p k. replicate k (call_of n p x.reaches) in
    record {
      path = path;
      steps = omega (arith, steps, least);
      answers = subst (λ (p : PathRuns). drawn_answers (from p) (calls p f.steps) ≡ replicate f.steps made) (sym path)
          (subst (λ (k : ℕ). drawn_answers start (calls laid k) ≡ replicate k made) steps w.answers);
      widest = subst (λ (p : PathRuns). Tells Some None points n p (made_moves (from p) (calls p f.steps)) f.widest) (sym path)
          (subst (λ (k : ℕ). Tells Some None points n laid (made_moves start (calls laid k)) f.widest) steps
          (subst (λ (y : Option Place). Tells Some None points n laid (made_moves start (replicate (steps_left n start) call)) y) (ap (λ (v : Vehicle). widest_among (point_count v) n course.runs) (sym (course_vehicle n laid (steps_left n start) start (cleared n x.reaches))) ∙ ap (λ (y : Finish). y.widest) b.1) told));
    }
