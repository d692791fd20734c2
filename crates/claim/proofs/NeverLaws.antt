-- No step touches the bits of a mark above those of the rig's points, and no call an entry past the stations asked for.
use Prim.Native.Nat.{ℕ, zero, suc, ◌+◌, ◌≤◌, ◌<◌}
use mathlib.Core.Path.{◌≡◌, refl, sym, ◌∙◌, ap, subst}
use mathlib.Core.List.{List, [], ◌∷◌, map}
use native.Mathlib.Nat as NatL
use native.Mathlib.Omega.{arith}
use native.Mathlib.Decide.{dec_lt}
use lib.ListN.{length, get_or, set, length-set, length-map, get_or-map}
use lib.Seq.{sets, drop-set-lt, map-set_same, get_or-set_other}
use lib.IntN.{ℤ}
use lib.Pow.{pow_pos}
use Rattle.std.specs.Prelude.{Result}
use Rattle.refusal.specs.Numbers.{Answer}
use Rattle.refusal.specs.Numbers as N
use Rattle.refusal.specs.declared.Fault.{Fault}
use Rattle.job.specs.declared.Job.{Job}
use Rattle.job.specs.declared.Vehicle.{Vehicle}
use Rattle.path.specs.declared.Station.{Station}
use Rattle.path.specs.Stations.{stations}
use Rattle.path.specs.Laying.{PathRuns, written, lay_answer, laid_runs, LayEnsures}
use Rattle.walk.specs.declared.Walk.{Walk}
use Rattle.walk.specs.Moving.{Advanced}
use Rattle.walk.specs.Drawn.{Drawn, view, Call, station_at, Outcome, made, refused, refused_at}
use Rattle.walk.specs.Rig.{draw_step}
use Rattle.marks.specs.Count.{point_count}
use Rattle.marks.specs.Marks.{bits_from}
use Rattle.points.proofs.PointLaws.{points_at_most}
use Rattle.reaches.specs.declared.Cell.{Cell}
use Rattle.reaches.specs.Cells.{Reaches, cell_at, cleared, at_stations}
use Rattle.reaches.specs.Crossing.{crossed, crossed_from}
use Rattle.reaches.proofs.CrossingLaws.{step_above}
use Rattle.stations.specs.Placing.{Placing, call_of, place_refusal, unless_refused, PlaceEnsures}
use Rattle.stations.specs.Stepping.{points_at, if_made, StepEnsures}
use Rattle.run.specs.Ran as R
use Rattle.run.specs.Walking.{Course, walk_on}
use Rattle.run.specs.Run.{run_refusal, job_path, job_course}
use Rattle.run.proofs.CourseLaws.{vehicle_stays}
use Rattle.ranking.specs.Ranking.{Listed}
use Rattle.bogie.specs.declared.Rail.{Rail}
use Rattle.bogie.specs.Settings.{last_setting, job_set}
use Rattle.bogie.specs.List.{list_refusal, ListEnsures}
use Rattle.claim.specs.WholeRun.{Run, Ensured}
use Rattle.claim.specs.NeverWritten.{bits_above, PastKept, PathPastKept, ReachesPastKept, station_count, StepNever, PlaceNever, RunNever, NeverWritten}
use Rattle.claim.proofs.CallsKept.{none_refused}
use Rattle.claim.proofs.CallsThere.{no_refusal}

-- runs that stay, and that go on staying
past_same : {A : Type 0} (n : ℕ) (l : List A) → PastKept n l l
past_same n l = record { entries = refl; size = refl }

past_then : {A : Type 0} {n : ℕ} {a b c : List A} → PastKept n a b → PastKept n b c → PastKept n a c
past_then h k = record { entries = k.entries ∙ h.entries; size = k.size ∙ h.size }

reaches_same : (n : ℕ) (r : Reaches) → ReachesPastKept n r r
reaches_same n r = record { left = past_same n r.left; right = past_same n r.right; marks = past_same n r.marks }

reaches_then : (n : ℕ) (a b c : Reaches) → ReachesPastKept n a b → ReachesPastKept n b c → ReachesPastKept n a c
reaches_then n a b c h k = record { left = past_then h.left k.left; right = past_then h.right k.right; marks = past_then h.marks k.marks }

-- one entry written below n, and several from there on
set_past : {A : Type 0} (n : ℕ) (l : List A) (i : ℕ) (v : A) → i < n → PastKept n l (set l i v)
set_past n l i v h = record { entries = drop-set-lt n l i v h; size = simp length-set }

sets_past : {A : Type 0} (n : ℕ) (vs l : List A) (i : ℕ) → i + length vs ≤ n → PastKept n l (sets l i vs)
sets_past n [] l i h = past_same n l
sets_past n (v ∷ vs) l i h = past_then (set_past n l i v (omega arith)) (sets_past n vs (set l i v) (suc i) (omega arith))

-- a rule carried out at the stations below n
stations_past : (f : ℕ → Cell → Cell) (n k : ℕ) (r : Reaches) → n ≤ k → ReachesPastKept k r (at_stations f n r)
unfolding at_stations
stations_past f zero k r h = reaches_same k r
stations_past f (suc n) k r h =
    let s = at_stations f n r in
    let c = f n (cell_at n s) in
    reaches_then k r s _ (stations_past f n k r (omega arith))
    (record { left = set_past k s.left n c.left (omega arith); right = set_past k s.right n c.right (omega arith); marks = set_past k s.marks n c.mark (omega arith) })

-- a mark replaced by one with the same bits above
module _ (v : Vehicle) where
  abbrev above : ℕ → ℕ
  above = bits_from (point_count v)

  zero_above : above 0 ≡ 0
  zero_above = NatL.div-eq_of_lt (pow_pos (point_count v))

  marks_above : (l : List ℕ) (i : ℕ) → get_or (map above l) i 0 ≡ above (get_or l i 0)
  marks_above l i = ap (get_or (map above l) i) (sym zero_above) ∙ get_or-map above l i 0

  set_above : (l : List ℕ) (n m i : ℕ) → above m ≡ above (get_or l n 0) → above (get_or (set l n m) i 0) ≡ above (get_or l i 0)
  set_above l n m i e = sym (marks_above (set l n m) i) ∙ ap (λ (k : List ℕ). get_or k i 0) (map-set_same above l n m 0 e) ∙ marks_above l i

  stations_above : (f : ℕ → Cell → Cell) → ((i : ℕ) (c : Cell) → above (f i c).mark ≡ above c.mark) → (n : ℕ) (r : Reaches) (i : ℕ) → bits_above v i (at_stations f n r) ≡ bits_above v i r
  unfolding at_stations
  stations_above f h zero r i = refl
  stations_above f h (suc n) r i =
      let s = at_stations f n r in
      set_above s.marks n (f n (cell_at n s)).mark i (h n (cell_at n s)) ∙ stations_above f h n r i

-- a mark that was cleared
zeroed : (l : List ℕ) (n : ℕ) → get_or (set l n 0) n 0 ≡ 0
zeroed [] n = refl
zeroed (x ∷ l) zero = refl
zeroed (x ∷ l) (suc n) = zeroed l n

cleared_mark : (n : ℕ) (r : Reaches) (i : ℕ) → i < n → get_or (cleared n r).marks i 0 ≡ 0
unfolding at_stations
cleared_mark zero r i h = absurd (omega arith)
cleared_mark (suc n) r i h = by (dec_lt i n) (cleared_mark n r i)
  where
    by : Dec (i < n) → (i < n → get_or (cleared n r).marks i 0 ≡ 0) → get_or (cleared (suc n) r).marks i 0 ≡ 0
    by (yes l) below = get_or-set_other (cleared n r).marks n i 0 0 (λ e. omega arith) ∙ below l
    by (no f) below =
        let e : i ≡ n = omega arith in
        ap (λ (k : ℕ). get_or (cleared (suc n) r).marks k 0) e ∙ zeroed (cleared n r).marks n

-- the crossings of a step
module _ (asked : ℕ) (path : PathRuns) (s s' : Drawn) (c : Call) (r : Reaches) where
  crossed_past : ReachesPastKept asked r (crossed asked path (points_at s c) (points_at s' c) r)
  crossed_past = stations_past _ asked asked r (omega arith)

  crossed_above : (v : Vehicle) → s.vehicle ≡ v → (i : ℕ) → bits_above v i (crossed asked path (points_at s c) (points_at s' c) r) ≡ bits_above v i r
  crossed_above v e =
      let most : length (points_at s c) ≤ point_count v = subst (λ (x : Vehicle). length (points_at s c) ≤ point_count x) e (points_at_most s.vehicle s.vectors _) in
      stations_above v (λ i x. crossed_from 0 (station_at path i) (points_at s c) (points_at s' c) x) (λ i x. step_above (point_count v) 0 (station_at path i) (points_at s c) (points_at s' c) x (omega (arith, most))) asked r

-- what holds of runs left alone and of a step's crossings holds along a walk
module _ (R : Reaches → Reaches → Type 0) (same : (r : Reaches) → R r r) where
  if_made_lem : (o : Outcome) (a r : Reaches) → R r a → R r (if_made o a r)
  if_made_lem made a r h = h
  if_made_lem (refused n) a r h = same r
  if_made_lem (refused_at n u) a r h = same r

  course_by : (o : Outcome) (a b : Course) (r : Reaches) → R r a.runs → R r b.runs → R r (if_made o a b).runs
  course_by made a b r h k = h
  course_by (refused n) a b r h k = k
  course_by (refused_at n u) a b r h k = k

  module _ (then : (a b c : Reaches) → R a b → R b c → R a c) (asked : ℕ) (path : PathRuns) (v : Vehicle)
      (step : (s s' : Drawn) → s.vehicle ≡ v → (c : Call) (r : Reaches) → R r (crossed asked path (points_at s c) (points_at s' c) r)) where
    along : (n : ℕ) (s : Drawn) → s.vehicle ≡ v → (r : Reaches) → R r (walk_on n asked path s r).runs
    unfolding walk_on
    along zero s e r = same r
    along (suc n) s e r =
        let c = call_of asked path r in
        let t = draw_step s c in
        let x = crossed asked path (points_at s c) (points_at t.state c) r in
        course_by t.answer (walk_on n asked path t.state x) (record { answer = t.answer; state = t.state; runs = r }) r
        (then r x _ (step s t.state e c r) (along n t.state (vehicle_stays s c ∙ e) x)) (same r)

abbrev SameAbove : Vehicle → Reaches → Reaches → Type 0
SameAbove v a b = (i : ℕ) → bits_above v i b ≡ bits_above v i a

above_same : (v : Vehicle) (r : Reaches) → SameAbove v r r
above_same v r i = refl

above_then : (v : Vehicle) (a b c : Reaches) → SameAbove v a b → SameAbove v b c → SameAbove v a c
above_then v a b c h k i = k i ∙ h i

-- the entries
step_never : (w : Walk) (c : Call) (before : Reaches) (r : Advanced) (after : Reaches) → StepEnsures w c before r after → StepNever w.vehicle c before after
step_never w c before r after k =
    let s' = (draw_step (view w) c).state in
    let o = (draw_step (view w) c).answer in
    record {
      above = subst (SameAbove w.vehicle before) (sym k.runs) (if_made_lem (SameAbove w.vehicle) (above_same w.vehicle) o _ before (crossed_above c.asked c.path (view w) s' c before w.vehicle refl));
      past = subst (ReachesPastKept c.asked before) (sym k.runs) (if_made_lem (ReachesPastKept c.asked) (reaches_same c.asked) o _ before (crossed_past c.asked c.path (view w) s' c before));
    }

unless_refused_lem : (P : Reaches → Type 0) (n : ℕ) (a b : Reaches) → P a → P b → P (unless_refused n a b)
unless_refused_lem P zero a b h k = h
unless_refused_lem P (suc n) a b h k = k

place_never : (v : Vehicle) (w : Walk) (c : Call) (before : Reaches) (p : Placing) (after : Reaches) → PlaceEnsures v w c before p after → PlaceNever c before p after
place_never v w c before p after k =
    record {
      cleared = λ e i h.
          let z = none_refused (place_refusal v c) (sym k.answered ∙ e) in
          ap (λ (x : Reaches). get_or x.marks i 0) (k.runs ∙ ap (λ (n : ℕ). unless_refused n (cleared c.asked before) before) z) ∙ cleared_mark c.asked before i h;
      past = subst (ReachesPastKept c.asked before) (sym k.runs)
          (unless_refused_lem (ReachesPastKept c.asked before) (place_refusal v c) (cleared c.asked before) before (stations_past _ c.asked c.asked before (omega arith)) (reaches_same c.asked before));
    }

-- laying
path_same : (n : ℕ) (r : PathRuns) → PathPastKept n r r
path_same n r = record { xs = past_same n r.xs; ys = past_same n r.ys; gxs = past_same n r.gxs; gys = past_same n r.gys }

written_past : (ps : List Station) (r : PathRuns) → PathPastKept (length ps) r (written ps r)
written_past ps r = record { xs = by (λ (p : Station). p.position.x) r.xs; ys = by (λ (p : Station). p.position.y) r.ys; gxs = by (λ (p : Station). p.heading.x) r.gxs; gys = by (λ (p : Station). p.heading.y) r.gys }
  where
    by : (f : Station → ℤ) (l : List ℤ) → PastKept (length ps) l (sets l 0 (map f ps))
    by f l = sets_past (length ps) (map f ps) l 0 (omega (arith, length-map ps f))

lay_never : (j : Job) (before : PathRuns) (answer : Result ℕ Fault) (after : PathRuns) → LayEnsures j before answer after → PathPastKept (station_count j) before after
lay_never j before answer after k = subst (PathPastKept (station_count j) before) (sym k.runs) (by (lay_answer j before))
  where
    by : (a : Answer ℕ) → PathPastKept (station_count j) before (laid_runs a j before)
    by (N.answered n) = written_past (stations j) before
    by (N.refused n) = path_same (station_count j) before

-- the walk of a job over its own path
module _ (j : Job) (p : PathRuns) (r : Reaches) where
  course_past : ReachesPastKept (station_count j) r (job_course j p r).runs
  course_past =
      let n = station_count j in
      reaches_then n r (cleared n r) (job_course j p r).runs (stations_past _ n n r (omega arith))
      (along (ReachesPastKept n) (reaches_same n) (reaches_then n) n (job_path j p) j.vehicle (λ s s' e. crossed_past n (job_path j p) s s') _ _ refl (cleared n r))

  path_by : (m : ℕ) → PathPastKept (station_count j) p (unless_refused m (job_path j p) p)
  path_by zero = written_past (stations j) p
  path_by (suc m) = path_same (station_count j) p

-- a whole job
module _ (x : Run) (h : Ensured x) where
  abbrev n : ℕ
  n = station_count x.job

  abbrev refusal : ℕ
  refusal = run_refusal x.job x.path x.reaches

  abbrev course : Course
  course = job_course x.job x.path x.reaches

  run_above : ((m : ℕ) → x.answer ≡ R.refused m → ⊥) → (i : ℕ) → i < n → bits_above x.job.vehicle i x.reaches_left ≡ 0
  run_above f i l =
      let v = x.job.vehicle in
      let path = job_path x.job x.path in
      let z : refusal ≡ 0 = no_refusal x.answer _ refusal h.answered f in
      ap (bits_above v i) (h.reaches ∙ ap (λ (m : ℕ). unless_refused m course.runs x.reaches) z)
      ∙ along (SameAbove v) (above_same v) (above_then v) n path v (λ s s' e c r. crossed_above n path s s' c r v e) _ _ refl (cleared n x.reaches) i
      ∙ ap (above v) (cleared_mark n x.reaches i l) ∙ zero_above v

  run_never : RunNever x
  run_never =
      record {
        above = run_above;
        path_past = subst (PathPastKept n x.path) (sym h.path) (path_by x.job x.path x.reaches refusal);
        past = subst (ReachesPastKept n x.reaches) (sym h.reaches) (unless_refused_lem (ReachesPastKept n x.reaches) refusal course.runs x.reaches (course_past x.job x.path x.reaches) (reaches_same n x.reaches));
      }

-- a list of settings: the stations are the job's at every wheelbase
list_never : (j : Job) (b : Rail) (p : PathRuns) (r : Reaches) (answer : Listed) (p' : PathRuns) (r' : Reaches) → ListEnsures j b p r answer p' r' → PathPastKept (station_count j) p p' × ReachesPastKept (station_count j) r r'
unfolding stations
list_never j b p r answer p' r' h = (
  subst (PathPastKept (station_count j) p) (sym h.path) (path_by j p r (list_refusal j b p r)),
  subst (ReachesPastKept (station_count j) r) (sym h.reaches)
      (unless_refused_lem (ReachesPastKept (station_count j) r) (list_refusal j b p r) _ r (course_past (job_set j (last_setting b)) p r) (reaches_same (station_count j) r)),
)

pub never_written_lem : NeverWritten
never_written_lem = record { lay = lay_never; place = place_never; step = step_never; run = run_never; list = list_never }
