-- What the entries ensure of jobs and walk records that agree but for unused entries. Assumes nothing.
use Prim.Native.Nat.{ℕ, zero, suc, ◌-◌, ◌<◌}
use mathlib.Core.Path.{◌≡◌, refl, ◌∙◌, sym, ap}
use mathlib.Core.List.{List, [], ◌∷◌, map}
use native.Mathlib.Omega.{arith}
use lib.ListN.{length, take, set, get_or, get_or-map}
use lib.Seq.{take-set-lt, get_or-take}
use Rattle.job.specs.declared.Form.{Form}
use Rattle.job.specs.declared.Form.TheVariants.{Short, Long}
use Rattle.job.specs.declared.Unit.{Unit as VehicleUnit}
use Rattle.job.specs.declared.Vehicle.{Vehicle}
use Rattle.job.specs.declared.Job.{Job}
use Rattle.job.specs.Empty.{empty_unit, cleared_unit}
use Rattle.refusal.proofs.NumberLaws.{same_answer}
use Rattle.path.specs.Stations.{stations}
use Rattle.path.specs.Laying.{PathRuns, lay_answer}
use Rattle.walk.specs.declared.Walk.{Walk}
use Rattle.walk.specs.Moving.{Advanced}
use Rattle.walk.specs.Drawn.{Drawn, view, Call, Outcome, made, refused, refused_at}
use Rattle.walk.specs.Rig.{Stepped, draw_step}
use Rattle.marks.proofs.CountLaws.{same_count}
use Rattle.reaches.specs.Cells.{Reaches}
use Rattle.reaches.specs.Widest.{widest_answer}
use Rattle.stations.specs.Placing.{Placing, place_refusal, unless_refused, start_heading, PlaceEnsures}
use Rattle.stations.specs.Stepping.{StepEnsures}
use Rattle.run.specs.Walking.{Course}
use Rattle.run.specs.Ran.{Ran}
use Rattle.run.specs.Run.{ran_by, ran_over, run_refusal, job_path, job_course, RunEnsures}
use Rattle.ranking.specs.Ranking.{Listed}
use Rattle.bogie.specs.declared.Rail.{Rail}
use Rattle.bogie.specs.Settings.{setting_at, last_setting, unit_set, vehicle_set, job_set}
use Rattle.bogie.specs.Fitting.{fitting}
use Rattle.bogie.specs.List.{list_refusal, ran_at, ListEnsures}
use Rattle.unused.specs.Same.{units_read, SameVehicle, SameJob, SameRig}
use Rattle.unused.specs.Unused.{SameCall, SameRun, Unused}
use Rattle.unused.proofs.SameJobs.{vehicle_fault_lem, emptied, fault, bytes, laid_stations, laid_answer, laid_runs_lem}
use Rattle.unused.proofs.SameRigs.{vehicle_sound_lem, started, record_sound_lem, stepped}
use Rattle.unused.proofs.SamePoints.{points_same}
use Rattle.unused.proofs.SameWalks.{AlikeCourse, walked}
use Rattle.unused.proofs.Examples.{some_jobs_lem, some_steps_lem}

place_refusal_lem : (v u : Vehicle) → SameVehicle v u → (c : Call) → place_refusal v c ≡ place_refusal u c
unfolding place_refusal
place_refusal_lem v u e c = rw (vehicle_sound_lem v u e)

unless_same : (n : ℕ) {s t s' t' : Drawn} → SameRig s t → SameRig s' t' → SameRig (unless_refused n s s') (unless_refused n t t')
unless_same zero a b = a
unless_same (suc n) a b = b

placing : (v u : Vehicle) → SameVehicle v u → (w x : Walk) → SameRig (view w) (view x) → (c : Call) (before : Reaches) (r q : Placing) (after other : Reaches) → PlaceEnsures v w c before r after → PlaceEnsures u x c before q other → SameCall r.answer q.answer r.walk q.walk after other
placing v u e w x a c before r q after other h g =
    let n = place_refusal_lem v u e c in
    record {
      answer = rw (h.answered, g.answered, n);
      walk = rw (h.placed, g.placed, n) (unless_same (place_refusal u c) (started v u e (start_heading c)) a);
      runs = rw (h.runs, g.runs, n);
    }

stepping : (w x : Walk) → SameRig (view w) (view x) → (c : Call) (before : Reaches) (r q : Advanced) (after other : Reaches) → StepEnsures w c before r after → StepEnsures x c before q other → SameCall r.answer q.answer r.walk q.walk after other
stepping w x e c before r q after other h g =
    let d = stepped (view w) (view x) e c in
    let a : r.answer ≡ (draw_step (view w) c).answer = ap (λ (y : Stepped). y.answer) h.stepped in
    let b : q.answer ≡ (draw_step (view x) c).answer = ap (λ (y : Stepped). y.answer) g.stepped in
    let s : view r.walk ≡ (draw_step (view w) c).state = ap (λ (y : Stepped). y.state) h.stepped in
    let t : view q.walk ≡ (draw_step (view x) c).state = ap (λ (y : Stepped). y.state) g.stepped in
    record {
      answer = a ∙ d.answer ∙ sym b;
      walk = rw (s, t) d.state;
      runs = rw (h.runs, g.runs, d.answer, points_same (view w) (view x) e c, points_same (draw_step (view w) c).state (draw_step (view x) c).state d.state c);
    }

widest_same : (s t : Drawn) → SameRig s t → (asked : ℕ) (runs : Reaches) → widest_answer s asked runs ≡ widest_answer t asked runs
unfolding widest_answer
widest_same s t e asked runs = rw (record_sound_lem s t e asked, same_count s.vehicle t.vehicle e.vehicle.count)

-- a whole job
ran_same : (asked : ℕ) (path : PathRuns) (x y : Course) → AlikeCourse x y → ran_over asked path x ≡ ran_over asked path y
ran_same asked path x y e = rw (e.answer, e.runs) (by y.answer)
  where
    by : (o : Outcome) → ran_by asked path o x.state y.runs ≡ ran_by asked path o y.state y.runs
    by made = rw (e.state.station, same_count x.state.vehicle y.state.vehicle e.state.vehicle.count)
    by (refused n) = rw e.state.station
    by (refused_at n u) = rw e.state.station

module _ (j k : Job) (s : SameJob j k) (p : PathRuns) (r : Reaches) where
  run_refusal_lem : run_refusal j p r ≡ run_refusal k p r
  unfolding run_refusal
  run_refusal_lem = rw (fault j k s, laid_stations j k s)

  course : AlikeCourse (job_course j p r) (job_course k p r)
  course = rw (laid_stations j k s) (walked _ (length (stations k)) (job_path k p) _ _ _ (started j.vehicle k.vehicle s.vehicle _))

  running : (a b : Ran) (p' q' : PathRuns) (r' s' : Reaches) → RunEnsures j p r a p' r' → RunEnsures k p r b q' s' → SameRun a b p' q' r' s'
  running a b p' q' r' s' h g =
      let l = laid_stations j k s in
      record {
        answer = rw (h.answered, g.answered, run_refusal_lem, ran_same (length (stations j)) (job_path j p) (job_course j p r) (job_course k p r) course, l);
        path = rw (h.path, g.path, run_refusal_lem, l);
        reaches = rw (h.reaches, g.reaches, run_refusal_lem, course.runs);
      }

-- its settings: another wheelbase of the last unit in use, whatever stands past it
abbrev put : ℕ → ℕ → List VehicleUnit → List VehicleUnit
put w n us = set us (n - 1) (unit_set (get_or us (n - 1) empty_unit) w)

in_use : (w n : ℕ) (us : List VehicleUnit) → take n (put w n us) ≡ put w n (take n us)
in_use w zero us = refl
in_use w (suc n) us =
    let l : suc n - 1 < suc n = omega arith in
    rw (take-set-lt (suc n) us (suc n - 1) (unit_set (get_or us (suc n - 1) empty_unit) w) l, get_or-take (suc n) us (suc n - 1) empty_unit l) refl

-- and with or without the bodies
map_set : {A B : Type 0} (f : A → B) (l : List A) (i : ℕ) (y : A) → map f (set l i y) ≡ set (map f l) i (f y)
map_set f [] i y = refl
map_set f (x ∷ xs) zero y = refl
map_set f (x ∷ xs) (suc i) y = rw (map_set f xs i y)

empty_cleared : (form : Form) → cleared_unit form empty_unit ≡ empty_unit
empty_cleared Short = refl
empty_cleared Long = refl

put_cleared : (form : Form) (w n : ℕ) (us : List VehicleUnit) → map (cleared_unit form) (put w n us) ≡ put w n (map (cleared_unit form) us)
put_cleared form w n us =
    let e : get_or (map (cleared_unit form) us) (n - 1) empty_unit ≡ cleared_unit form (get_or us (n - 1) empty_unit) =
    ap (get_or (map (cleared_unit form) us) (n - 1)) (sym (empty_cleared form)) ∙ get_or-map (cleared_unit form) us (n - 1) empty_unit in
    map_set (cleared_unit form) us (n - 1) (unit_set (get_or us (n - 1) empty_unit) w) ∙ ap (λ (u : VehicleUnit). set (map (cleared_unit form) us) (n - 1) (unit_set u w)) (sym e)

read_set : (v : Vehicle) (w : ℕ) → units_read (vehicle_set v w) ≡ put w v.count (units_read v)
read_set v w = ap (map (cleared_unit v.form)) (in_use w v.count v.units) ∙ put_cleared v.form w v.count (take v.count v.units)

vehicle_set_lem : (v u : Vehicle) → SameVehicle v u → (w : ℕ) → SameVehicle (vehicle_set v w) (vehicle_set u w)
vehicle_set_lem v u s w = record {
  form = s.form;
  count = s.count;
  units = read_set v w ∙ ap (put w v.count) s.units ∙ ap (λ (n : ℕ). put w n (units_read u)) s.count ∙ sym (read_set u w);
  overhang = s.overhang;
  front_half_width = s.front_half_width;
  rear_half_width = s.rear_half_width;
}

module _ (j k : Job) (s : SameJob j k) (b : Rail) (p : PathRuns) (r : Reaches) where
  set_same : (w : ℕ) → SameJob (job_set j w) (job_set k w)
  set_same w = record { vehicle = vehicle_set_lem j.vehicle k.vehicle s.vehicle w; start = s.start; step = s.step; count = s.count; elements = s.elements }

  ran_at_lem : (w : ℕ) → ran_at j p r w ≡ ran_at k p r w
  ran_at_lem w =
      let t = set_same w in
      rw (ran_same (length (stations (job_set j w))) (job_path (job_set j w) p) (job_course (job_set j w) p r) (job_course (job_set k w) p r) (course (job_set j w) (job_set k w) t p r), laid_stations (job_set j w) (job_set k w) t)

  fitting_same : (n : ℕ) → fitting (ran_at j p r) (setting_at b) n ≡ fitting (ran_at k p r) (setting_at b) n
  unfolding fitting
  fitting_same zero = refl
  fitting_same (suc n) = rw (ran_at_lem (setting_at b n), fitting_same n)

  list_refusal_lem : list_refusal j b p r ≡ list_refusal k b p r
  unfolding list_refusal
  list_refusal_lem = rw (run_refusal_lem j k s p r)

  listing : (a c : Listed) (p' q' : PathRuns) (r' s' : Reaches) → ListEnsures j b p r a p' r' → ListEnsures k b p r c q' s' → SameRun a c p' q' r' s'
  listing a c p' q' r' s' h g = record {
    answer = rw (h.answered, g.answered, list_refusal_lem, fitting_same b.number);
    path = rw (h.path, g.path, list_refusal_lem, laid_stations j k s);
    reaches = rw (h.reaches, g.reaches, list_refusal_lem, (course (job_set j (last_setting b)) (job_set k (last_setting b)) (set_same (last_setting b)) p r).runs);
  }

pub unused : Unused
unused = record {
  emptied = emptied;
  vehicle_faults = vehicle_fault_lem;
  faults = fault;
  bytes = bytes;
  stations = laid_stations;
  written = λ j k s before a b after other h g.
      (same_answer a b (rw (h.answer, g.answer, fault j k s, bytes j k s)), rw (h.written, g.written, fault j k s, bytes j k s));
  laid = λ j k s before a b after other h g.
      (same_answer a b (rw (h.answered, g.answered, laid_answer j k s before)), rw (h.runs, g.runs, laid_answer j k s before, laid_runs_lem j k s (lay_answer k before) before));
  placed = placing;
  stepped = stepping;
  widest = λ w x e asked runs a b h g. rw (h, g, widest_same (view w) (view x) e asked runs);
  ran = running;
  listed = listing;
  some_jobs = some_jobs_lem;
  some_steps = some_steps_lem;
}
