-- The look ahead, a step at a time: a made step without a touch leaves a walk that is looked at likewise, any other ends it.
use Prim.Native.Nat.{ℕ, suc, ◌+◌, ◌-◌, ◌≤◌, ◌<◌}
use mathlib.Core.Path.{◌≡◌, refl, sym, ◌∙◌, ap, ap₂, subst}
use mathlib.Core.Bool.{true}
use mathlib.Core.List.{List}
use native.Mathlib.Omega.{arith}
use borrow.Author.Tests.{le-leb}
use lib.ListN.{length, get_or, take}
use lib.Seq.{sets}
use Rattle.std.proofs.lemmas.Bool.{and_from}
use Rattle.std.specs.Prelude.{Option, Some, None, Err}
use Rattle.plane.specs.declared.Vec2.{Vec2}
use Rattle.job.specs.declared.Vehicle.{Vehicle}
use Rattle.path.specs.Laying.{PathRuns}
use Rattle.walk.specs.declared.Walk.{Walk}
use Rattle.walk.specs.declared.StepRefusal.{StepRefusal}
use Rattle.walk.specs.declared.StepRefusal.TheVariants as S
use Rattle.walk.specs.Drawn.{Drawn, view, Call, station_at, Outcome, made, outcome_of}
use Rattle.walk.specs.Tests.{lent, path_lent, record_sound}
use Rattle.walk.specs.Rig.{Stepped, draw_step, zero_vector}
use Rattle.walk.specs.Moving.{AdvanceEnsures}
use Rattle.walk.proofs.PathTests.{path_station, station_lent}
use Rattle.walk.proofs.RecordTests.{lent_path, sound_record}
use Rattle.marks.specs.Count.{point_count}
use Rattle.points.specs.Points.{no_points}
use Rattle.points.proofs.PointLaws.{points_sized}
use Rattle.stations.specs.Stepping.{points_at}
use Rattle.stations.specs.Inner.{Open}
use Rattle.stations.proofs.CallLaws.{step_open}
use Rattle.stations.proofs.Entering.{rig_at, points_fit, taken_count, taken_as}
use Rattle.stations.proofs.RigLaws.{sound_keeping}
use Rattle.run.specs.declared.RunRefusal.TheVariants.{Stopped}
use Rattle.run.specs.Stops.{stop_at}
use Rattle.run.specs.Walking.{steps_left, Going}
use Rattle.run.proofs.WalkingLaws.{is_open, made_step_lem}
use Rattle.run.proofs.CourseLaws.{vehicle_stays}
use Rattle.touching.specs.Touch.{OnMap}
use Rattle.kerb_line.specs.Kerb.{KerbRuns, vertices}
use Rattle.kerb_line.specs.Contact.{lowest_touch}
use Rattle.kerb_line.specs.Requires.{Meetable}
use Rattle.kerb_report.specs.Answers.{KerbReport, as_report}
use Rattle.kerb_report.specs.Answers as R
use Rattle.kerb_report.specs.Report.{call_over, first_or, after_step, look_ahead}
use Rattle.kerb_report.specs.Requires.{Ahead, Steppable, OnPath}

-- runs as long as the stations asked for pass 21
pub over_lent : (asked : ℕ) (path : PathRuns) → path_lent asked path ≡ true → lent (call_over asked path) ≡ true
unfolding lent
over_lent asked path e = let l = le-leb asked asked (omega arith) in and_from _ _ e (and_from _ _ l (and_from _ _ l l))

module _ (asked : ℕ) (path : PathRuns) (kerb : List Vec2) where
  pub look_end : (s : Drawn) → asked ≤ s.station + 1 → look_ahead (steps_left asked s) asked path kerb s ≡ R.nothing
  unfolding look_ahead
  look_end s h = let e : steps_left asked s ≡ 0 = omega arith in rw e refl

  pub look_next : (s : Drawn) → s.station + 1 < asked → let c = call_over asked path in
      look_ahead (steps_left asked s) asked path kerb s ≡ after_step (s.station + 1) (draw_step s c).answer
      (first_or (s.station + 1) (lowest_touch (points_at s c) (points_at (draw_step s c).state c) kerb) (look_ahead (asked - (s.station + 2)) asked path kerb (draw_step s c).state))
  unfolding look_ahead
  look_next s h = let e : steps_left asked s ≡ suc (asked - (s.station + 2)) = omega arith in rw e refl

-- a refused step ends the look, whatever the steps after it would come to
stop_told : (f : StepRefusal) (k : ℕ) (r : KerbReport) → as_report (Err (Stopped (stop_at f k))) ≡ after_step k (outcome_of (Err f)) r
stop_told (S.Call f) k r = refl
stop_told (S.Unit f) k r = refl

module _ (asked : ℕ) (path : PathRuns) (n : ℕ) (kerb : KerbRuns) where
  abbrev c : Call
  c = call_over asked path

  abbrev position : ℕ → Vec2
  position k = (station_at path k).position

  abbrev ahead_of : Drawn → KerbReport
  ahead_of s = look_ahead (steps_left asked s) asked path (vertices n kerb) s

  pub ahead_going : (s : Drawn) → Ahead s asked path n kerb → Going s c
  ahead_going s a = record { lent = over_lent asked path a.path; path = a.stations; rig = a.rig }

  -- a made step leaves a walk that is looked at likewise
  module _ (w w' : Walk) (a : Ahead (view w) asked path n kerb) (h : w.station + 1 < asked) (e : AdvanceEnsures w (position w.station) (position (w.station + 1)) (record { answer = made; walk = w' })) where
    pub still_ahead : Ahead (view w') asked path n kerb
    still_ahead =
        let o = is_open (view w) c (ahead_going (view w) a) h in
        let d : record { answer = made; state = view w' } ≡ draw_step (view w) c = e.stepped ∙ sym (step_open (view w) c o) in
        record {
          path = a.path;
          kerb = a.kerb;
          stations = a.stations;
          vertices = a.vertices;
          rig = subst (λ (s : Drawn). record_sound asked s ≡ true) (sym (ap (λ (t : Stepped). t.state) d)) (made_step_lem (view w) c o (sym (ap (λ (t : Stepped). t.answer) d))).0;
        }

  -- a walk that is looked at, and how many points it has
  pub record Here (w : Walk) (m : ℕ) : Type 0 where
    pub ahead : Ahead (view w) asked path n kerb
    pub places : length w.vehicle.units ≡ 4
    pub count : m ≡ point_count w.vehicle

  -- the points of such a walk where it stands, at the start of an array
  abbrev pub PointsOf : Walk → List Vec2 → Type 0
  PointsOf w ps = ps ≡ sets no_points 0 (points_at (view w) c)

  module _ (w : Walk) (m : ℕ) (a : Here w m) where
    -- they can be placed
    pub on_path : OnPath w path
    on_path =
        let k = (sound_record asked (view w) a.ahead.rig).station in
        record {
          station = station_lent path asked w.station (lent_path asked path a.ahead.path).room k;
          rig = rig_at w path asked w.station a.places (sound_keeping asked (view w) a.ahead.rig) a.ahead.stations k;
        }

    -- and it can be stepped
    pub steppable : w.station + 1 < asked → Steppable w path
    steppable h =
        let l = lent_path asked path a.ahead.path in
        let r = on_path.rig in
        let new = path_station path asked (w.station + 1) a.ahead.stations h in
        record {
          from = on_path.station;
          to = station_lent path asked (w.station + 1) l.room h;
          ready = record { units = record { rig = r.rig; old_x = r.front.x; old_y = r.front.y; new_x = new.x; new_y = new.y }; station = omega (arith, l.most) };
        }

    module _ (ps : List Vec2) (e : PointsOf w ps) where
      pub fit : m ≤ length ps
      fit = points_fit w.vehicle on_path.rig.rig.most w.d (position w.station) a.count e

      pub taken : m ≡ length (take m ps)
      taken = taken_count w.vehicle on_path.rig.rig.most w.d (position w.station) a.count e

      first : take m ps ≡ points_at (view w) c
      first = taken_as w.vehicle on_path.rig.rig.most w.d (position w.station) a.count e

      pub on_map : (k : ℕ) → OnMap (get_or (take m ps) k zero_vector)
      on_map k = rw first (let p = points_sized on_path.rig k in record { x = p.x; y = p.y })

  -- the points of two such walks can be looked at as they move
  pub meetable : (w w' : Walk) (m : ℕ) → Here w m → Here w' m → (ps qs : List Vec2) → PointsOf w ps → PointsOf w' qs → Meetable (take m ps) (take m qs) n kerb
  meetable w w' m a b ps qs e f =
      record {
        moves = sym (taken w m a ps e) ∙ taken w' m b qs f;
        old = λ k h. on_map w m a ps e k;
        new = λ k h. on_map w' m b qs f k;
        lent = a.ahead.kerb;
        sound = a.ahead.vertices;
      }

  -- a step of the program that leads to station k
  module _ (w : Walk) (m : ℕ) (a : Here w m) (k : ℕ) (led : w.station + 1 ≡ k) (h : k < asked) where
    inside : w.station + 1 < asked
    inside = omega arith

    is_on : Open (view w) c
    is_on = is_open (view w) c (ahead_going (view w) a.ahead) inside

    abbrev later : KerbReport
    later = look_ahead (asked - (w.station + 2)) asked path (vertices n kerb) (draw_step (view w) c).state

    abbrev moved : Option ℕ
    moved = lowest_touch (points_at (view w) c) (points_at (draw_step (view w) c).state c) (vertices n kerb)

    drawn : (o : Outcome) (w' : Walk) → AdvanceEnsures w (position w.station) (position (w.station + 1)) (record { answer = o; walk = w' })
        → record { answer = o; state = view w' } ≡ draw_step (view w) c
    drawn o w' e = e.stepped ∙ sym (step_open (view w) c is_on)

    next_told : (o : Outcome) → o ≡ (draw_step (view w) c).answer → after_step k o (first_or k moved later) ≡ ahead_of (view w)
    next_told o e =
        ap (λ (x : Outcome). after_step k x (first_or k moved later)) e
        ∙ sym (look_next asked path (vertices n kerb) (view w) inside ∙ ap (λ (j : ℕ). after_step j (draw_step (view w) c).answer (first_or j moved later)) led)

    pub stopped_here : (f : StepRefusal) (w' : Walk) → AdvanceEnsures w (position w.station) (position (w.station + 1)) (record { answer = outcome_of (Err f); walk = w' })
        → as_report (Err (Stopped (stop_at f k))) ≡ ahead_of (view w)
    stopped_here f w' e = stop_told f k (first_or k moved later) ∙ next_told (outcome_of (Err f)) (ap (λ (t : Stepped). t.answer) (drawn _ w' e))

    -- a made one
    module _ (w' : Walk) (e : AdvanceEnsures w (position w.station) (position (w.station + 1)) (record { answer = made; walk = w' })) where
      drawn_state : view w' ≡ (draw_step (view w) c).state
      drawn_state = ap (λ (t : Stepped). t.state) (drawn made w' e)

      drawn_made : made ≡ (draw_step (view w) c).answer
      drawn_made = ap (λ (t : Stepped). t.answer) (drawn made w' e)

      pub one_on : w'.station ≡ k
      one_on = ap (λ (s : Drawn). s.station) drawn_state ∙ (made_step_lem (view w) c is_on (sym drawn_made)).1 ∙ led

      pub same_vehicle : w'.vehicle ≡ w.vehicle
      same_vehicle = ap (λ (s : Drawn). s.vehicle) drawn_state ∙ vehicle_stays (view w) c

      pub still_here : Here w' m
      still_here =
          record {
            ahead = still_ahead w w' a.ahead inside e;
            places = ap (λ (v : Vehicle). length v.units) same_vehicle ∙ a.places;
            count = a.count ∙ sym (ap point_count same_vehicle);
          }

      -- the move of its points, from the walk as it stood to the walk as it stands
      module _ (ps qs : List Vec2) (old : PointsOf w ps) (new : PointsOf w' qs) where
        moved_so : lowest_touch (take m ps) (take m qs) (vertices n kerb) ≡ moved
        moved_so =
            ap₂ (λ (x y : List Vec2). lowest_touch x y (vertices n kerb)) (first w m a ps old) (first w' m still_here qs new)
            ∙ ap (λ (s : Drawn). lowest_touch (points_at (view w) c) (points_at s c) (vertices n kerb)) drawn_state

        told : (t : Option ℕ) → t ≡ lowest_touch (take m ps) (take m qs) (vertices n kerb) → first_or k t later ≡ ahead_of (view w)
        told t f = ap (λ (x : Option ℕ). first_or k x later) (f ∙ moved_so) ∙ next_told made drawn_made

        pub touched_here : (p : ℕ) → Some p ≡ lowest_touch (take m ps) (take m qs) (vertices n kerb) → R.touch k p ≡ ahead_of (view w)
        touched_here p f = told (Some p) f

        pub clear_here : None ≡ lowest_touch (take m ps) (take m qs) (vertices n kerb) → ahead_of (view w') ≡ ahead_of (view w)
        clear_here f =
            let left : steps_left asked (view w') ≡ asked - (w.station + 2) = let o = one_on in omega arith in
            ap (λ (x : ℕ). look_ahead x asked path (vertices n kerb) (view w')) left ∙ ap (look_ahead (asked - (w.station + 2)) asked path (vertices n kerb)) drawn_state
            ∙ told None f
