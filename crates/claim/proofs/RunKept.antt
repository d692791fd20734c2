-- A whole job against laying, placing and step calls.
use Prim.Native.Nat.{ℕ, zero, suc, ◌+◌, ◌-◌}
use mathlib.Core.Path.{◌≡◌, refl, sym, ◌∙◌, ap, subst}
use mathlib.Core.Bool.{Bool, true, false, ◌&&◌}
use mathlib.Core.List.{List}
use native.Mathlib.Omega.{arith}
use borrow.Author.Tests.{eq-eqb}
use lib.Dec.{eqb}
use lib.ListN.{length}
use Rattle.std.specs.Prelude.{Ok, Err}
use Rattle.std.proofs.lemmas.Bool.{and_right, and_parts, and_from}
use Rattle.refusal.specs.Numbers.{number_of}
use Rattle.refusal.specs.Numbers as N
use Rattle.refusal.specs.declared.Fault.{Fault}
use Rattle.number.specs.Read.{pick}
use Rattle.job.specs.declared.Job.{Job}
use Rattle.job.specs.declared.Vehicle.{Vehicle}
use Rattle.marks.specs.Count.{point_count}
use Rattle.job.specs.Allowed.{between}
use Rattle.job.specs.Faults.{judge}
use Rattle.path.specs.Stations.{stations}
use Rattle.path.specs.Laying.{PathRuns, room_for, lay_answer, LayEnsures}
use Rattle.path.proofs.JobLaws.{stations_answered}
use Rattle.walk.specs.declared.Walk.{Walk}
use Rattle.walk.specs.Drawn.{Drawn, view, Call, Outcome, made, refused, refused_at}
use Rattle.walk.specs.Tests.{lent, path_lent, reaches_lent, path_sound, vehicle_sound, record_sound}
use Rattle.walk.specs.Rig.{drawn_start}
use Rattle.reaches.specs.Cells.{Reaches, lengths_of, cleared_cell, cleared}
use Rattle.reaches.proofs.CellLaws.{lengths_of_lem}
use Rattle.reaches.specs.Widest.{widest_among, answer_of, widest_lent, widest_answer}
use Rattle.stations.specs.Placing as P
use Rattle.stations.specs.Placing.{Placing, call_of, place_refusal, place_answer, unless_refused, start_heading, PlaceEnsures}
use Rattle.run.specs.Ran as R
use Rattle.run.specs.Walking.{Course, walk_to_end, steps_left}
use Rattle.run.specs.Run.{finish_at, ran_by, ran_over, walk_over, run_refusal, ran_answer, job_path, job_course}
use Rattle.run.proofs.WalkingLaws.{same_call}
use Rattle.run.proofs.CourseLaws.{course_vehicle, course_lengths}
use Rattle.run.proofs.OverLaws.{placed_going}
use Rattle.run.proofs.RunLaws.{runnable}
use Rattle.claim.specs.DemandThree.{Turn, Chain, last_record}
use Rattle.claim.proofs.RecordKept.{handed_asked, vehicle_left, sound_left}
use Rattle.claim.specs.WholeRun.{Handed, last_runs, UntilRefused, Told, Run, Ensured, Untouched, Followed, WholeRun}
use Rattle.claim.proofs.CallsKept.{none_refused, passed}
use Rattle.claim.proofs.RunFollows.{as_call, Ended, calls_end}

-- refused: nothing was written
untouched : (x : Run) → Ensured x → (m : ℕ) → run_refusal x.job x.path x.reaches ≡ suc m → Untouched x (suc m)
untouched x h m e = record { answer = h.answered ∙ rw e refl; path = h.path ∙ rw e refl; reaches = h.reaches ∙ rw e refl }

not_zero : (x : Run) → Ensured x → (m : ℕ) → run_refusal x.job x.path x.reaches ≡ m → (m ≡ 0 → ⊥) → Untouched x m
not_zero x h zero e n = absurd (n refl)
not_zero x h (suc m) e n = untouched x h m e

-- laying refuses by the job's fault, or by 21
laid_by : (a b c : Bool) (f m k : ℕ) → eqb f 0 ≡ a → N.refused m ≡ pick a (pick b (N.answered k) (N.refused 21)) (N.refused f) → (pick a (pick (b && c) 0 21) f ≡ m) × (m ≡ 0 → ⊥)
laid_by true true c f m k t e = absurd (let z : ◌≡◌ {A = ℕ} 0 1 = cc in omega arith)
laid_by true false c f m k t e = let z : m ≡ 21 = cc in (sym z, λ y. omega arith)
laid_by false b c f m k t e =
    let z : m ≡ f = cc in
    (sym z, λ y. let w : true ≡ false = sym (eq-eqb f 0 (sym z ∙ y)) ∙ t in absurd (let v : ◌≡◌ {A = ℕ} 0 1 = cc in omega arith))

not_laid_lem : (x : Run) → Ensured x → (f : Fault) (laid : PathRuns) → LayEnsures x.job x.path (Err f) laid → Untouched x (number_of f)
unfolding lay_answer run_refusal
not_laid_lem x h f laid t =
    let n = length (stations x.job) in
    let q = laid_by (eqb (judge x.job) 0) (room_for n x.path) (reaches_lent n (lengths_of x.reaches)) (judge x.job) (number_of f) n refl t.answered in
    not_zero x h (number_of f) q.0 q.1

-- the widest place of runs that were lent
pub read_off : (v : Vehicle) (s : Drawn) (n : ℕ) (path : PathRuns) (r : Reaches) → s.vehicle ≡ v → record_sound n s ≡ true → lent (call_of n path r) ≡ true → answer_of (widest_among (point_count v) n r) ≡ widest_answer s n r
unfolding lent widest_lent widest_answer
read_off v s n path r e k l =
    let a = and_parts (path_lent n path) (reaches_lent n (lengths_of r)) l in
    let b = and_parts (between 1 2001 n) (room_for n path) a.0 in
    rw (and_from _ _ b.0 a.1, k) (ap (λ (x : Vehicle). answer_of (widest_among (point_count x) n r)) (sym e))

-- laid: the job has no fault and its path has room
module _ (x : Run) (h : Ensured x) (n : ℕ) (laid : PathRuns) (t : LayEnsures x.job x.path (Ok n) laid) where
  abbrev j : Job
  j = x.job

  abbrev call : Call
  call = call_of n laid x.reaches

  -- placing refuses by 21 alone, where one of the other three runs is too short
  place_by : (b : Bool) → reaches_lent n (lengths_of x.reaches) ≡ b → place_refusal j.vehicle call ≡ pick b 0 21
  unfolding place_refusal lent
  place_by true e = let y = runnable j x.path n laid t x.reaches e in rw (y.lent, y.path, y.vehicle) refl
  place_by false e = rw (and_right (path_lent n laid) (reaches_lent n (lengths_of x.reaches)) e) refl

  run_by : (b : Bool) → reaches_lent n (lengths_of x.reaches) ≡ b → run_refusal j x.path x.reaches ≡ pick b 0 21
  unfolding run_refusal
  run_by b e =
      let s = stations_answered j x.path n laid t in
      let z = eq-eqb (judge j) 0 s.0 in
      rw (z, s.1, ← s.2, e) refl

  same_refusal : run_refusal j x.path x.reaches ≡ place_refusal j.vehicle call
  same_refusal = run_by (reaches_lent n (lengths_of x.reaches)) refl ∙ sym (place_by (reaches_lent n (lengths_of x.reaches)) refl)

  module _ (w : Walk) (p : Placing) (after : Reaches) (k : PlaceEnsures j.vehicle w call x.reaches p after) where
    refused_as : (a m : ℕ) → place_answer a ≡ P.refused m → (a ≡ m) × (m ≡ 0 → ⊥)
    refused_as zero m e = absurd (let z : ◌≡◌ {A = ℕ} 0 1 = cc in omega arith)
    refused_as (suc a) m e = let z : suc a ≡ m = cc in (z, λ y. omega (arith, z, y))

    pub not_placed_lem : (m : ℕ) → p.answer ≡ P.refused m → Untouched x m
    not_placed_lem m e =
        let q = refused_as (place_refusal j.vehicle call) m (sym k.answered ∙ e) in
        not_zero x h m (same_refusal ∙ q.0) q.1

    -- placed: every test was passed
    module _ (e : p.answer ≡ P.placed) where
      no_refusal : place_refusal j.vehicle call ≡ 0
      no_refusal = none_refused (place_refusal j.vehicle call) (sym k.answered ∙ e)

      reaches_lent_lem : lent call ≡ true → reaches_lent n (lengths_of x.reaches) ≡ true
      unfolding lent
      reaches_lent_lem l = (and_parts (path_lent n laid) (reaches_lent n (lengths_of x.reaches)) l).1

      call_lent : lent call ≡ true
      unfolding place_refusal
      call_lent = (passed (lent call) (path_sound n laid) (vehicle_sound j.vehicle) no_refusal).0

      is_placed : view p.walk ≡ drawn_start j.vehicle (start_heading call)
      is_placed = k.placed ∙ ap (λ (a : ℕ). unless_refused a (drawn_start j.vehicle (start_heading call)) (view w)) no_refusal

      is_cleared : after ≡ cleared n x.reaches
      is_cleared = k.runs ∙ ap (λ (a : ℕ). unless_refused a (cleared n x.reaches) x.reaches) no_refusal

      -- the walk that the run made is the one from this placement
      abbrev course : Course
      course = walk_to_end n laid (view p.walk) after

      same_course : course ≡ job_course j x.path x.reaches
      same_course =
          let s = stations_answered j x.path n laid t in
          let f : Drawn → Reaches → Course = λ d r. walk_to_end n laid d r in
          let g : ℕ → PathRuns → Course = λ m q. walk_over m q j.vehicle x.reaches in
          ap (λ (d : Drawn). f d after) is_placed ∙ ap (f (drawn_start j.vehicle (start_heading call))) is_cleared ∙ ap (λ (m : ℕ). g m laid) s.2 ∙ ap (g (length (stations j))) s.3

      run_answer : x.answer ≡ ran_over n laid course
      run_answer =
          let s = stations_answered j x.path n laid t in
          let m = length (stations j) in
          h.answered ∙ ap (λ (a : ℕ). ran_answer a (ran_over m (job_path j x.path) (job_course j x.path x.reaches))) (same_refusal ∙ no_refusal)
          ∙ sym (ap (λ (a : ℕ). ran_over a laid course) s.2 ∙ ap (λ (q : PathRuns). ran_over m q course) s.3 ∙ ap (ran_over m (job_path j x.path)) same_course)

      run_path : x.path_left ≡ laid
      run_path =
          h.path ∙ ap (λ (a : ℕ). unless_refused a (job_path j x.path) x.path) (same_refusal ∙ no_refusal) ∙ sym (stations_answered j x.path n laid t).3

      run_reaches : x.reaches_left ≡ course.runs
      run_reaches =
          h.reaches ∙ ap (λ (a : ℕ). unless_refused a (job_course j x.path x.reaches).runs x.reaches) (same_refusal ∙ no_refusal) ∙ sym (ap (λ (c : Course). c.runs) same_course)

      start_zero : p.walk.station ≡ 0
      start_zero = ap (λ (d : Drawn). d.station) is_placed

      course_of_lem : course.state.vehicle ≡ j.vehicle
      course_of_lem = course_vehicle n laid (steps_left n (view p.walk)) (view p.walk) after ∙ ap (λ (d : Drawn). d.vehicle) is_placed

      -- the answer, by what the calls end with
      module _ (ts : List Turn) (o : Ended course 0 after ts) where
        answered_by_lem : (a : Outcome) (d : Drawn) (r : Reaches) → course ≡ record { answer = a; state = d; runs = r } → ran_over n laid course ≡ ran_by n laid a d r
        answered_by_lem a d r q = ap (ran_over n laid) q

        finished_so : (a : Outcome) → course.answer ≡ a → as_call a ≡ refused 25 → ran_over n laid course ≡ R.finished (finish_at j.vehicle (length ts - 1) n laid (last_runs after ts))
        finished_so made q z =
            let s : course.state.station ≡ length ts - 1 = let c = o.count in omega (arith, c) in
            ap (λ (a : Outcome). ran_by n laid a course.state course.runs) q
            ∙ ap (λ (v : Vehicle). R.finished (finish_at v course.state.station n laid course.runs)) course_of_lem ∙ ap (λ (i : ℕ). R.finished (finish_at j.vehicle i n laid course.runs)) s ∙ ap (λ (r : Reaches). R.finished (finish_at j.vehicle (length ts - 1) n laid r)) o.runs
        finished_so (refused m) q z = absurd (o.at_unit m q)
        finished_so (refused_at m u) q z = absurd (let y : ◌≡◌ {A = ℕ} 0 1 = cc in omega arith)

        stopped_so : (a : Outcome) (m u : ℕ) → course.answer ≡ a → as_call a ≡ refused_at m u → ran_over n laid course ≡ R.stopped m u (length ts)
        stopped_so made m u q z = absurd (let y : ◌≡◌ {A = ℕ} 0 1 = cc in omega arith)
        stopped_so (refused b) m u q z = absurd (o.at_unit b q)
        stopped_so (refused_at b v) m u q z =
            let c : course.state.station + 1 ≡ length ts = let k = o.count in omega (arith, k) in
            ap (λ (a : Outcome). ran_by n laid a course.state course.runs) (q ∙ z) ∙ ap (λ (i : ℕ). R.stopped m u i) c

        only_25 : (a : Outcome) (m : ℕ) → course.answer ≡ a → as_call a ≡ refused m → m ≡ 25
        only_25 made m q z = cc
        only_25 (refused b) m q z = absurd (o.at_unit b q)
        only_25 (refused_at b v) m q z = absurd (let y : ◌≡◌ {A = ℕ} 0 1 = cc in omega arith)

        -- the runs are lent to `widest` as they were to the calls
        course_lent : lent (call_of n laid course.runs) ≡ true
        course_lent =
            let a = course_lengths n laid (steps_left n (view p.walk)) (view p.walk) after in
            let b = lengths_of_lem (λ i c. cleared_cell) n x.reaches is_cleared in
            rw (same_call n laid a, same_call n laid b) call_lent

        pub told : Chain p.walk ts → Handed n laid after ts → record_sound n (view p.walk) ≡ true → Told j.vehicle (last_record p.walk ts) n laid (last_runs after ts) ts x.answer
        told c d g =
            record {
              finished = λ z. run_answer ∙ finished_so course.answer refl (sym o.answer ∙ z);
              stopped = λ m u z. run_answer ∙ stopped_so course.answer m u refl (sym o.answer ∙ z);
              only = λ m z. only_25 course.answer m refl (sym o.answer ∙ z);
              widest = subst (λ (r : Reaches). answer_of (widest_among (point_count j.vehicle) n r) ≡ widest_answer (view (last_record p.walk ts)) n r) o.runs
                  (read_off j.vehicle (view (last_record p.walk ts)) n laid course.runs (vehicle_left p.walk ts c ∙ ap (λ (s : Drawn). s.vehicle) is_placed) (sound_left n p.walk g ts c (handed_asked n laid after ts d)) course_lent);
            }

      pub followed : (ts : List Turn) → Chain p.walk ts → Handed n laid after ts → UntilRefused ts → Followed x p.walk n laid after ts
      followed ts c d u =
          let y = runnable j x.path n laid t x.reaches (reaches_lent_lem call_lent) in
          let g = placed_going n laid j.vehicle x.reaches y p.walk after is_placed is_cleared in
          let o = subst (λ (i : ℕ). Ended course i after ts) start_zero (calls_end n laid p.walk after g ts c d u) in
          record { path = run_path; reaches = run_reaches ∙ o.runs; told = told ts o c d g.rig }

pub whole_run : WholeRun
whole_run = record { not_laid = not_laid_lem; not_placed = not_placed_lem; walked = followed }
