-- What a job can answer: a run's steps, stations and units in their ranges, with no refusal but 22 and 23; the reader's numbers and bytes.
use Prim.Native.Nat.{ℕ, zero, suc, ◌+◌, ◌-◌, ◌≤◌, ◌<◌}
use mathlib.Core.Path.{◌≡◌, refl, sym, ◌∙◌, subst}
use mathlib.Core.Bool.{true}
use mathlib.Core.List.{List}
use mathlib.Core.Logic.{◌⊎◌}
use native.Mathlib.Omega.{arith}
use lib.ListN.{length, take, length-take}
use Rattle.std.specs.Prelude.{Option, None, Some}
use Rattle.number.specs.Read.{refused as refusedRead}
use Rattle.number.proofs.PlaceLaws.{Inside}
use Rattle.job.specs.declared.Job.{Job}
use Rattle.job.specs.Faults.{judge}
use Rattle.job_reader.specs.Record.{read_job}
use Rattle.job_reader.proofs.PlaceLaws.{read_inside}
use Rattle.job_writer.proofs.Reach.{first_bytes_lem}
use Rattle.path.specs.Stations.{stations}
use Rattle.path.specs.Laying.{PathRuns, room_for}
use Rattle.path.proofs.JobLaws.{laid_answered}
use Rattle.path.proofs.SoundLaws.{sound_path}
use Rattle.walk.specs.declared.Walk.{Walk}
use Rattle.walk.specs.Drawn.{Drawn, view, Outcome, made, refused, refused_at, station_at}
use Rattle.walk.specs.Tests.{units_in_use, reaches_lent}
use Rattle.walk.specs.Units.{none, Turning, turned, stopped}
use Rattle.walk.specs.Rig.{start_vectors, Stepped, turning_of, after_turning, draw_step}
use Rattle.walk.proofs.StartKept.{few_units}
use Rattle.walk.proofs.RecordTests.{sound_record}
use Rattle.run.proofs.StopLaws.{StopsIn, units_stop}
use Rattle.reaches.specs.declared.Place.{Place}
use Rattle.reaches.specs.Cells.{Reaches, lengths_of, cleared}
use Rattle.marks.specs.Count.{point_count}
use Rattle.reaches.specs.Widest.{widest_among}
use Rattle.reaches.specs.Crossing.{crossed, crossed_from}
use Rattle.reaches.proofs.CellLaws.{stations_lengths}
use Rattle.reaches.proofs.WidestLaws.{Right, among_right}
use Rattle.stations.specs.Placing.{call_of}
use Rattle.stations.specs.Stepping.{points_at, if_made}
use Rattle.stations.proofs.CallLaws.{step_open}
use Rattle.run.specs.Walking.{Course, walk_on, Going}
use Rattle.run.specs.Ran.{Ran}
use Rattle.run.specs.Ran as R
use Rattle.run.specs.Run.{ran_by, ran_over, job_path, job_course, Runnable}
use Rattle.run.proofs.WalkingLaws.{same_call, is_open, made_step_lem}
use Rattle.run.proofs.OverLaws.{some_asked, placed_going}
use Rattle.run.proofs.RunLaws.{runnable}
use Rattle.swept.specs.Ranges.{OnPath, FinishedSo, StoppedSo, RefusedSo}

-- how a walk whose path ends at the station `last` can end
abbrev EndsSo : ℕ → Outcome → ℕ → Type 0
EndsSo last made station = station ≤ last
EndsSo last (refused n) station = ⊥
EndsSo last (refused_at n u) station = ((n ≡ 22) ⊎ (n ≡ 23)) × (1 ≤ u) × (u ≤ 4) × (station < last)

module _ (asked : ℕ) (path : PathRuns) where
  -- the rest of a walk, after one step call
  abbrev after_step : ℕ → Drawn → Reaches → Stepped → Course
  after_step n s r t =
      let c = call_of asked path r in
      if_made t.answer
      (walk_on n asked path t.state (crossed asked path (points_at s c) (points_at t.state c) r))
      (record { answer = t.answer; state = t.state; runs = r })

  -- what a step call leaves to show: where it is made, that the walk from there ends so
  abbrev Rest : ℕ → Drawn → Reaches → ℕ → Stepped → Type 0
  Rest n s r last t =
      (t.answer ≡ made → let c = call_of asked path r in let w = walk_on n asked path t.state (crossed asked path (points_at s c) (points_at t.state c) r) in EndsSo last w.answer w.state.station)
      → EndsSo last (after_step n s r t).answer (after_step n s r t).state.station

  step_so : (n : ℕ) (s : Drawn) (r : Reaches) (last : ℕ) → s.station < last → length (units_in_use s.vehicle) ≤ 4
      → (x : Turning) → StopsIn 1 (length (units_in_use s.vehicle)) x → Rest n s r last (after_turning s x)
  step_so n s r last h few (turned ds) k later = later refl
  step_so n s r last h few (stopped m u) k later = (k.0, k.1, omega (arith, k.2), h)

  course_so : (n : ℕ) (s : Drawn) (r : Reaches) → Going s (call_of asked path r) → s.station + n < asked → EndsSo (s.station + n) (walk_on n asked path s r).answer (walk_on n asked path s r).state.station
  unfolding walk_on
  course_so zero s r g h = omega arith
  course_so (suc n) s r g h =
      let c = call_of asked path r in
      let o = is_open s c g (omega arith) in
      let t = draw_step s c in
      let x = crossed asked path (points_at s c) (points_at t.state c) r in
      let same = same_call asked path (stations_lengths (λ i. crossed_from 0 (station_at path i) (points_at s c) (points_at t.state c)) asked r) in
      let v = (sound_record asked s g.rig).vehicle in
      subst (Rest n s r (s.station + suc n)) (sym (step_open s c o))
      (step_so n s r (s.station + suc n) (omega arith) (few_units s.vehicle v) (turning_of s c) (units_stop 1 none (units_in_use s.vehicle) s.vectors _ _))
      (λ m.
      let q = made_step_lem s c o m in
      let going = subst (Going t.state) (sym same) (record { lent = g.lent; path = g.path; rig = q.0 }) in
      let last : t.state.station + n ≡ s.station + suc n = omega (arith, q.1) in
      subst (λ (k : ℕ). EndsSo k (walk_on n asked path t.state x).answer (walk_on n asked path t.state x).state.station) last (course_so n t.state x going (omega arith)))

-- what a run can answer where nothing is refused
abbrev pub RanSo : Ran → Type 0
RanSo (R.finished f) = FinishedSo f
RanSo (R.stopped n u k) = StoppedSo n u k
RanSo (R.refused n) = ⊥

-- an accepted job's walk on runs with room, from its placement to its end
module _ (j : Job) (sound : judge j ≡ 0) (p : PathRuns) (r : Reaches) (room : room_for (length (stations j)) p ≡ true) (lent : reaches_lent (length (stations j)) (lengths_of r) ≡ true) where
  abbrev path : PathRuns
  path = job_path j p

  abbrev asked : ℕ
  asked = length (stations j)

  abbrev placed : Walk
  placed = record { vehicle = j.vehicle; station = 0; d = start_vectors j.vehicle (station_at path 0).heading }

  can_run : Runnable j.vehicle (call_of asked path r)
  can_run = runnable j p asked path (laid_answered j p sound room) r lent

  abbrev course : Course
  course = job_course j p r

  walk_so : EndsSo (0 + (asked - 1)) course.answer course.state.station
  walk_so =
      let g = placed_going asked path j.vehicle r can_run placed (cleared asked r) refl refl in
      course_so asked path (asked - 1) (view placed) (cleared asked r) g (omega (arith, some_asked asked path j.vehicle r can_run))

  widest_so : (n : ℕ) (q : Reaches) → OnPath (widest_among n asked q)
  widest_so n q = by (widest_among n asked q) (among_right n asked q)
    where
      by : (b : Option Place) → Right n asked q b → OnPath b
      by None h = tt
      by (Some f) h = omega (arith, h.inside, (sound_path j sound).most)

  pub ran_so : RanSo (ran_over asked path course)
  ran_so = by course.answer course.state course.runs walk_so
    where
      by : (o : Outcome) (t : Drawn) (q : Reaches) → EndsSo (0 + (asked - 1)) o t.station → RanSo (ran_by asked path o t q)
      by made t q h = record { steps = omega (arith, (sound_path j sound).most); widest = widest_so (point_count t.vehicle) q }
      by (refused n) t q h = absurd h
      by (refused_at n u) t q h = record { number = h.0; unit = (h.1, h.2); step = (omega arith, omega (arith, h.3, (sound_path j sound).most)) }

-- a refusal of the reader
pub refused_so : (s : List ℕ) (n p : ℕ) → read_job s ≡ refusedRead n p → RefusedSo s n p
refused_so s n p e =
    let i = subst (Inside s 10) e (read_inside s) in
    let k = subst (Inside (take 1024 s) 10) (first_bytes_lem 1024 s (omega arith) ∙ e) (read_inside (take 1024 s)) in
    record { number = (i.least, i.most); place = i.place; near = omega (arith, k.place, length-take 1024 s) }
