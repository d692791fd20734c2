-- What can stand in a report: which numbers, units, steps and points.
use Prim.Native.Nat.{ℕ, zero, suc, ◌+◌, ◌≤◌, ◌<◌}
use mathlib.Core.Path.{◌≡◌, refl, ap}
use mathlib.Core.Bool.{Bool, true, false}
use mathlib.Core.List.{List, [], ◌∷◌}
use mathlib.Core.Logic.{◌⊎◌, inl, inr}
use native.Mathlib.Omega.{arith}
use lib.ListN.{length, length-take}
use Rattle.std.specs.Prelude.{Option, Some, None}
use Rattle.number.specs.Read.{pick}
use Rattle.plane.specs.declared.Vec2.{Vec2}
use Rattle.path.specs.Laying.{PathRuns}
use Rattle.walk.specs.Drawn.{Drawn, Call, station_at, Outcome, made, refused, refused_at}
use Rattle.walk.specs.Tests.{path_lent, path_sound, record_sound, units_in_use}
use Rattle.walk.specs.Units.{none, Turning, turned, stopped}
use Rattle.walk.specs.Rig.{turning_of, after_turning, draw_step}
use Rattle.walk.proofs.RecordTests.{lent_path, sound_record}
use Rattle.walk.proofs.VehicleTests.{units_counted}
use Rattle.marks.specs.Count.{point_capacity}
use Rattle.marks.proofs.CountLaws.{count_fits}
use Rattle.points.proofs.PointLaws.{points_at_most}
use Rattle.stations.specs.Stepping.{points_at}
use Rattle.stations.specs.Inner.{Open}
use Rattle.stations.proofs.CallLaws.{step_open}
use Rattle.run.specs.Walking.{steps_left}
use Rattle.run.proofs.StopLaws.{StopsIn, units_stop}
use Rattle.run.proofs.WalkingLaws.{is_open, made_step_lem}
use Rattle.kerb_line.specs.Kerb.{KerbRuns, vertices, kerb_lent, kerb_sound}
use Rattle.kerb_line.specs.Contact.{Segment, segments, touches_one, lowest_from, lowest_touch}
use Rattle.kerb_report.specs.Answers.{KerbReport}
use Rattle.kerb_report.specs.Answers as R
use Rattle.kerb_report.specs.Report.{call_over, first_or, after_step, look_ahead, report_of}
use Rattle.kerb_report.specs.Ranges.{ReportedSo, ReportEnsures}
use Rattle.kerb_report.specs.Looking.{report_refusal}
use Rattle.kerb_report.specs.Requires.{Ahead}
use Rattle.kerb_report.proofs.LookLaws.{over_lent}

-- a point that touches is one of those that move
abbrev pub PointBelow : ℕ → Option ℕ → Type 0
PointBelow m None = Unit {0}
PointBelow m (Some p) = p < m

lowest_below_lem : (p : ℕ) (olds news : List Vec2) (ss : List Segment) → PointBelow (p + length olds) (lowest_from p olds news ss)
unfolding lowest_from
lowest_below_lem p [] news ss = tt
lowest_below_lem p (a ∷ olds) [] ss = tt
lowest_below_lem p (a ∷ olds) (b ∷ news) ss = by (touches_one a b ss) (lowest_from (p + 1) olds news ss) (lowest_below_lem (p + 1) olds news ss)
  where
    by : (t : Bool) (x : Option ℕ) → PointBelow (p + 1 + length olds) x → PointBelow (p + suc (length olds)) (pick t (Some p) x)
    by true x h = omega arith
    by false None h = tt
    by false (Some q) h = omega (arith, h)

touch_below : (olds news kerb : List Vec2) (m : ℕ) → length olds ≤ m → PointBelow m (lowest_touch olds news kerb)
unfolding lowest_touch
touch_below olds news kerb m h = by (lowest_from 0 olds news (segments kerb)) (lowest_below_lem 0 olds news (segments kerb))
  where
    by : (x : Option ℕ) → PointBelow (0 + length olds) x → PointBelow m x
    by None k = tt
    by (Some q) k = omega (arith, k)

-- what a step that passed the tests answers: made, or 22 or 23 at a unit
abbrev pub AnswersSo : Outcome → Type 0
AnswersSo made = Unit {0}
AnswersSo (refused m) = ⊥
AnswersSo (refused_at m u) = ((m ≡ 22) ⊎ (m ≡ 23)) × ((1 ≤ u) × (u ≤ 4))

pub step_answers : (s : Drawn) (c : Call) → Open s c → AnswersSo (draw_step s c).answer
step_answers s c o =
    rw (step_open s c o)
    (by (turning_of s c) (units_stop 1 none (units_in_use s.vehicle) s.vectors (station_at c.path s.station).position (station_at c.path (s.station + 1)).position))
  where
    by : (t : Turning) → StopsIn 1 (length (units_in_use s.vehicle)) t → AnswersSo (after_turning s t).answer
    by (turned ds) h = tt
    by (stopped m u) h = (h.0, (h.1, omega (arith, h.2, length-take s.vehicle.count s.vehicle.units, (units_counted s.vehicle (sound_record c.asked s o.rig).vehicle).1)))

-- a step that leads to station k of the path
module _ (k : ℕ) (least : 1 ≤ k) (most : k ≤ 2000) where
  first_so : (x : Option ℕ) (later : KerbReport) → PointBelow point_capacity x → ReportedSo later → ReportedSo (first_or k x later)
  first_so None later h l = l
  first_so (Some p) later h l = record { step = (least, most); point = h }

  after_so : (o : Outcome) (r : KerbReport) → AnswersSo o → (o ≡ made → ReportedSo r) → ReportedSo (after_step k o r)
  after_so made r a h = h refl
  after_so (refused m) r a h = absurd a
  after_so (refused_at m u) r a h = record { number = a.0; unit = a.1; step = (least, most) }

module _ (asked : ℕ) (path : PathRuns) (lent : path_lent asked path ≡ true) (sound : path_sound asked path ≡ true) (kerb : List Vec2) where
  look_so : (n : ℕ) (s : Drawn) → record_sound asked s ≡ true → s.station + n < asked → ReportedSo (look_ahead n asked path kerb s)
  unfolding look_ahead
  look_so zero s e h = tt
  look_so (suc n) s e h =
      let c = call_over asked path in
      let t = draw_step s c in
      let k = s.station + 1 in
      let asks = (lent_path asked path lent).most in
      let most : k ≤ 2000 = omega arith in
      let least : 1 ≤ k = omega arith in
      let o : Open s c = is_open s c (record { lent = over_lent asked path lent; path = sound; rig = e }) (omega arith) in
      let count = points_at_most s.vehicle s.vectors (station_at path s.station).position in
      let fits = count_fits s.vehicle (units_counted s.vehicle (sound_record asked s e).vehicle).1 in
      let touch = lowest_touch (points_at s c) (points_at t.state c) kerb in
      let later = look_ahead n asked path kerb t.state in
      let below = touch_below (points_at s c) (points_at t.state c) kerb point_capacity (omega (arith, count, fits)) in
      after_so k least most t.answer (first_or k touch later) (step_answers s c o)
      (λ m. let q = made_step_lem s c o m in first_so k least most touch later below (look_so n t.state q.0 (omega (arith, q.1))))

module _ (s : Drawn) (asked : ℕ) (path : PathRuns) (n : ℕ) (kerb : KerbRuns) where
  by_tests : (a b c d e : Bool) → path_lent asked path ≡ a → path_sound asked path ≡ c → record_sound asked s ≡ e
      → ReportedSo (pick a (pick b (pick c (pick d (pick e (look_ahead (steps_left asked s) asked path (vertices n kerb) s) (R.refused 27)) (R.refused 26)) (R.refused 26)) (R.refused 21)) (R.refused 21))
  by_tests false b c d e p q r = inl refl
  by_tests true false c d e p q r = inl refl
  by_tests true true false d e p q r = inr (inl refl)
  by_tests true true true false e p q r = inr (inl refl)
  by_tests true true true true false p q r = inr (inr refl)
  by_tests true true true true true p q r = look_so asked path p q (vertices n kerb) (steps_left asked s) s r (omega (arith, (sound_record asked s r).station))

  pub reported_so : ReportedSo (report_of s asked path n kerb)
  unfolding report_of
  reported_so = by_tests (path_lent asked path) (kerb_lent n kerb) (path_sound asked path) (kerb_sound n kerb) (record_sound asked s) refl refl refl

  pub ensured : (r : KerbReport) → r ≡ report_of s asked path n kerb → ReportEnsures s asked path n kerb r
  ensured r e = record { answer = e; ranges = rw e reported_so }

  -- a refusal before any step is the report
  refused_by : (a b c d e : Bool) (m : ℕ) (r : KerbReport) → m ≡ pick a (pick b (pick c (pick d (pick e 0 27) 26) 26) 21) 21 → (m ≡ 0 → ⊥)
      → R.refused m ≡ pick a (pick b (pick c (pick d (pick e r (R.refused 27)) (R.refused 26)) (R.refused 26)) (R.refused 21)) (R.refused 21)
  refused_by false b c d e m r h z = ap R.refused h
  refused_by true false c d e m r h z = ap R.refused h
  refused_by true true false d e m r h z = ap R.refused h
  refused_by true true true false e m r h z = ap R.refused h
  refused_by true true true true false m r h z = ap R.refused h
  refused_by true true true true true m r h z = absurd (z h)

  pub refused_first : (m : ℕ) → m ≡ report_refusal s asked path n kerb → (m ≡ 0 → ⊥) → R.refused m ≡ report_of s asked path n kerb
  unfolding report_refusal report_of
  refused_first m h z = refused_by (path_lent asked path) (kerb_lent n kerb) (path_sound asked path) (kerb_sound n kerb) (record_sound asked s) m _ h z

  -- without one, all that the look ahead asks was tested
  passed_by : (a b c d e : Bool) → ◌≡◌ {A = ℕ} 0 (pick a (pick b (pick c (pick d (pick e 0 27) 26) 26) 21) 21) → (a ≡ true) × (b ≡ true) × (c ≡ true) × (d ≡ true) × (e ≡ true)
  passed_by false b c d e h = absurd (omega arith)
  passed_by true false c d e h = absurd (omega arith)
  passed_by true true false d e h = absurd (omega arith)
  passed_by true true true false e h = absurd (omega arith)
  passed_by true true true true false h = absurd (omega arith)
  passed_by true true true true true h = (refl, refl, refl, refl, refl)

  pub passed : 0 ≡ report_refusal s asked path n kerb → Ahead s asked path n kerb
  unfolding report_refusal
  passed h =
      let t = passed_by (path_lent asked path) (kerb_lent n kerb) (path_sound asked path) (kerb_sound n kerb) (record_sound asked s) h in
      record { path = t.0; kerb = t.1; stations = t.2; vertices = t.3; rig = t.4 }

  pub looked : Ahead s asked path n kerb → look_ahead (steps_left asked s) asked path (vertices n kerb) s ≡ report_of s asked path n kerb
  unfolding report_of
  looked a = rw (a.path, a.kerb, a.stations, a.vertices, a.rig) refl

  -- the report, test by test
  pub path_short : path_lent asked path ≡ false → R.refused 21 ≡ report_of s asked path n kerb
  unfolding report_of
  path_short e = rw e refl

  module _ (a : path_lent asked path ≡ true) where
    pub kerb_short_lem : kerb_lent n kerb ≡ false → R.refused 21 ≡ report_of s asked path n kerb
    unfolding report_of
    kerb_short_lem e = rw (a, e) refl

    module _ (b : kerb_lent n kerb ≡ true) where
      pub path_unsound : path_sound asked path ≡ false → R.refused 26 ≡ report_of s asked path n kerb
      unfolding report_of
      path_unsound e = rw (a, b, e) refl

      module _ (c : path_sound asked path ≡ true) where
        pub kerb_unsound_lem : kerb_sound n kerb ≡ false → R.refused 26 ≡ report_of s asked path n kerb
        unfolding report_of
        kerb_unsound_lem e = rw (a, b, c, e) refl

        module _ (d : kerb_sound n kerb ≡ true) where
          pub rig_unsound : record_sound asked s ≡ false → R.refused 27 ≡ report_of s asked path n kerb
          unfolding report_of
          rig_unsound e = rw (a, b, c, d, e) refl

          pub all_passed : record_sound asked s ≡ true → look_ahead (steps_left asked s) asked path (vertices n kerb) s ≡ report_of s asked path n kerb
          all_passed e = looked (record { path = a; kerb = b; stations = c; vertices = d; rig = e })
