-- The look ahead of a report, followed by the step calls themselves.
use Prim.Native.Nat.{ℕ, zero, suc, ◌+◌, ◌≤◌, ◌<◌}
use mathlib.Core.Path.{◌≡◌, refl, sym, ◌∙◌, ap, subst}
use mathlib.Core.Bool.{true}
use mathlib.Core.List.{List, [], ◌∷◌}
use native.Mathlib.Omega.{arith}
use lib.ListN.{length, get_or}
use Rattle.std.specs.Prelude.{Option, Some, None}
use Rattle.plane.specs.declared.Vec2.{Vec2}
use Rattle.job.specs.declared.Vehicle.{Vehicle}
use Rattle.path.specs.Laying.{PathRuns}
use Rattle.walk.specs.declared.Walk.{Walk}
use Rattle.walk.specs.Drawn.{Drawn, view, Call, Outcome, made, refused, refused_at}
use Rattle.walk.specs.Tests.{path_lent, path_sound, record_sound}
use Rattle.walk.specs.Rig.{Stepped, zero_vector}
use Rattle.walk.proofs.RecordTests.{sound_record}
use Rattle.walk.proofs.VehicleTests.{units_counted}
use Rattle.marks.specs.Count.{point_count}
use Rattle.points.proofs.PointLaws.{points_count}
use Rattle.stations.specs.Stepping.{points_at, StepEnsures}
use Rattle.stations.specs.Inner.{Open}
use Rattle.stations.proofs.StepLaws.{refused_not_made, unit_not_made}
use Rattle.run.proofs.WalkingLaws.{is_open, made_step_lem}
use Rattle.run.proofs.CourseLaws.{vehicle_stays}
use Rattle.claim.specs.DemandThree.{Turn, Chain}
use Rattle.claim.specs.WholeRun.{UntilRefused, last_answer}
use Rattle.kerb_line.specs.Kerb.{KerbRuns, vertices}
use Rattle.kerb_line.specs.Contact.{Segment, segments, lowest_touch}
use Rattle.kerb_report.specs.Answers.{KerbReport}
use Rattle.kerb_report.specs.Answers as R
use Rattle.kerb_report.specs.Report.{call_over, first_or, after_step, look_ahead}
use Rattle.kerb_report.proofs.LookLaws.{over_lent}
use Rattle.kerb_report.proofs.RangeLaws.{AnswersSo, step_answers}
use Rattle.kerb_claim.specs.FirstTouch.{Question, CallOver, AllOver, record_after, MadeCall, Touches, TouchesIn, NoTouch, FirstAt, ClearToEnd, ClearToStop}
use Rattle.kerb_claim.proofs.ContactLaws.{MeetsOne, ContactSays, contact_says}
use Rattle.kerb_claim.proofs.StepLaws.{stepped, answered, left, down, step_25}

module _ (asked : ℕ) (path : PathRuns) (count : ℕ) (kerb : KerbRuns) where
  abbrev pub from : Walk → Question
  from w = record { walk = w; asked = asked; path = path; count = count; kerb = kerb }

  abbrev ss : List Segment
  ss = segments (vertices count kerb)

  abbrev call : Call
  call = call_over asked path

  -- what a look ahead says of the calls; it is never refused before a step
  abbrev pub Seen : Walk → List Turn → KerbReport → Type 0
  Seen w ts R.nothing = ClearToEnd (from w) ts
  Seen w ts (R.touch k p) = FirstAt (from w) ts k p
  Seen w ts (R.stopped m u k) = ClearToStop (from w) ts m u k
  Seen w ts (R.refused m) = ⊥

  -- one call alone, refused: no call is made
  alone_clear : (w : Walk) (t : Turn) → (t.result.answer ≡ made → ⊥) → NoTouch (from w) (t ∷ [])
  unfolding MadeCall
  alone_clear w t n zero p m x = n m
  alone_clear w t n (suc i) p m x = absurd m

  -- a made call without a touch, before others
  module _ (w : Walk) (t : Turn) (clear : (p : ℕ) → Touches path ss w t.result.walk p → ⊥) (on : t.result.walk.station ≡ w.station + 1) where
    clear_before : (n : ℕ) (ts : List Turn) → ((i p : ℕ) → i < n → MadeCall i ts → TouchesIn (from t.result.walk) ts i p → ⊥)
        → (i p : ℕ) → i < suc n → MadeCall i (t ∷ ts) → TouchesIn (from w) (t ∷ ts) i p → ⊥
    unfolding MadeCall record_after
    clear_before n ts h zero p l m x = clear p x
    clear_before n ts h (suc i) p l m x = h i p (omega arith) m x

    clear_all : (ts : List Turn) → NoTouch (from t.result.walk) ts → NoTouch (from w) (t ∷ ts)
    clear_all ts h i p m x = clear_before (suc i) ts (λ j r l. h j r) i p (omega arith) m x

    shifted : (u : Turn) (ts : List Turn) (r : KerbReport) → Seen t.result.walk (u ∷ ts) r → Seen w (t ∷ u ∷ ts) r
    unfolding MadeCall record_after last_answer
    shifted u ts R.nothing h = record { clear = clear_all (u ∷ ts) h.clear; ended = h.ended }
    shifted u ts (R.touch k p) h = record {
      call = suc h.call;
      counted = let e = h.counted in omega arith;
      is_made = h.is_made;
      leads = h.leads;
      touches = h.touches;
      lower = h.lower;
      earlier = clear_before h.call (u ∷ ts) h.earlier;
    }
    shifted u ts (R.stopped m v k) h = record { clear = clear_all (u ∷ ts) h.clear; ended = h.ended; counted = let e = h.counted in omega arith }
    shifted u ts (R.refused m) h = h

  module _ (lent : path_lent asked path ≡ true) (sound : path_sound asked path ≡ true) where
    -- one call of a walk that is not at its last station
    module _ (w : Walk) (t : Turn) (k : StepEnsures w t.call t.before t.result t.after) (o : CallOver asked path t)
        (rig : record_sound asked (view w) ≡ true) (h : w.station + 1 < asked) where
      is_on : Open (view w) call
      is_on = is_open (view w) call (record { lent = over_lent asked path lent; path = sound; rig = rig }) h

      abbrev olds : List Vec2
      olds = points_at (view w) call

      abbrev news : List Vec2
      news = points_at (view t.result.walk) call

      units : w.vehicle.count ≤ 4
      units = (units_counted w.vehicle (sound_record asked (view w) rig).vehicle).1

      same_vehicle : t.result.walk.vehicle ≡ w.vehicle
      same_vehicle = ap (λ (s : Drawn). s.vehicle) (left asked path w t k o) ∙ vehicle_stays (view w) call

      olds_count : length olds ≡ point_count w.vehicle
      olds_count = points_count w.vehicle units w.d _

      news_count : length news ≡ point_count t.result.walk.vehicle
      news_count = points_count t.result.walk.vehicle (subst (λ (v : Vehicle). v.count ≤ 4) (sym same_vehicle) units) t.result.walk.d _

      pub says : ContactSays olds news ss (lowest_touch olds news (vertices count kerb))
      says = contact_says olds news (vertices count kerb) (olds_count ∙ sym (ap point_count same_vehicle) ∙ sym news_count)

      meets_of : (p : ℕ) → Touches path ss w t.result.walk p → (p < length olds) × MeetsOne (get_or olds p zero_vector) (get_or news p zero_vector) ss
      meets_of p x = (rw olds_count x.point, record { segment = x.segment; among = x.among; meeting = x.meeting })

      made_kept : t.result.answer ≡ made → (record_sound asked (view t.result.walk) ≡ true) × (t.result.walk.station ≡ w.station + 1)
      made_kept m =
          let q = made_step_lem (view w) call is_on (sym (answered asked path w t k o) ∙ m) in
          let e = left asked path w t k o in
          (subst (λ (s : Drawn). record_sound asked s ≡ true) (sym e) q.0, ap (λ (s : Drawn). s.station) e ∙ q.1)

      -- the first touch in it
      touched : (ts : List Turn) (p : ℕ) → t.result.answer ≡ made → ContactSays olds news ss (Some p) → FirstAt (from w) (t ∷ ts) (w.station + 1) p
      unfolding MadeCall record_after
      touched ts p m c = record {
        call = 0;
        counted = omega arith;
        is_made = m;
        leads = (made_kept m).1;
        touches = record { point = rw (sym olds_count) c.below; segment = c.meets.segment; among = c.meets.among; meeting = c.meets.meeting };
        lower = λ j l x. c.lower j l (meets_of j x).1;
        earlier = λ i j l. absurd (omega arith);
      }

      -- by its answer
      by_answer : (a : Outcome) → t.result.answer ≡ a → AnswersSo a → (x : Option ℕ) → ContactSays olds news ss x
          → (ts : List Turn) → UntilRefused (t ∷ ts) → (later : KerbReport) → (t.result.answer ≡ made → UntilRefused ts → Seen t.result.walk ts later)
          → Seen w (t ∷ ts) (after_step (w.station + 1) a (first_or (w.station + 1) x later))
      unfolding UntilRefused last_answer
      by_answer made e a x c [] q later rest = absurd (q e)
      by_answer made e a (Some p) c (u ∷ ts) q later rest = touched (u ∷ ts) p e c
      by_answer made e a None c (u ∷ ts) q later rest = shifted w t (λ p y. let z = meets_of p y in c p z.0 z.1) (made_kept e).1 u ts later (rest e q.1)
      by_answer (refused m) e a x c ts q later rest = absurd a
      by_answer (refused_at m v) e a x c [] q later rest = record { clear = alone_clear w t (λ f. unit_not_made m v (sym e ∙ f)); ended = e; counted = refl }
      by_answer (refused_at m v) e a x c (u ∷ ts) q later rest = absurd (unit_not_made m v (sym e ∙ q.0))

      pub one_step : (n : ℕ) (ts : List Turn) → UntilRefused (t ∷ ts)
          → (t.result.answer ≡ made → UntilRefused ts → Seen t.result.walk ts (look_ahead n asked path (vertices count kerb) (view t.result.walk)))
          → Seen w (t ∷ ts) (look_ahead (suc n) asked path (vertices count kerb) (view w))
      unfolding look_ahead
      one_step n ts q rest =
          let f : Stepped → KerbReport = λ x. after_step (w.station + 1) x.answer (first_or (w.station + 1) (lowest_touch olds (points_at x.state call) (vertices count kerb)) (look_ahead n asked path (vertices count kerb) x.state)) in
          let e = answered asked path w t k o in
          subst (Seen w (t ∷ ts)) (ap f (stepped asked path w t k o))
          (by_answer t.result.answer refl (rw e (step_answers (view w) call is_on)) (lowest_touch olds news (vertices count kerb)) says ts q (look_ahead n asked path (vertices count kerb) (view t.result.walk)) rest)

    -- at the last station
    last_step : (w : Walk) (t : Turn) → StepEnsures w t.call t.before t.result t.after → CallOver asked path t → record_sound asked (view w) ≡ true → asked ≤ w.station + 1
        → t.result.answer ≡ refused 25
    last_step w t k o rig h = down asked path w t k o 25 (step_25 asked path (view w) lent sound rig h)

    -- every call, from any station on
    pub followed : (n : ℕ) (w : Walk) (ts : List Turn) → record_sound asked (view w) ≡ true → asked ≡ w.station + 1 + n → Chain w ts → AllOver asked path ts → UntilRefused ts
        → Seen w ts (look_ahead n asked path (vertices count kerb) (view w))
    unfolding Chain AllOver UntilRefused look_ahead last_answer
    followed n w [] rig e c o q = absurd q
    followed zero w (t ∷ ts) rig e c o q = end (last_step w t c.0 o.0 rig (omega arith)) ts q
      where
        end : t.result.answer ≡ refused 25 → (us : List Turn) → UntilRefused (t ∷ us) → Seen w (t ∷ us) (look_ahead 0 asked path (vertices count kerb) (view w))
        end f [] r = record { clear = alone_clear w t (λ m. refused_not_made 25 (sym f ∙ m)); ended = f }
        end f (u ∷ us) r = absurd (refused_not_made 25 (sym f ∙ r.0))
    followed (suc n) w (t ∷ ts) rig e c o q =
        let h : w.station + 1 < asked = omega arith in
        one_step w t c.0 o.0 rig h n ts q
        (λ m r. let g = made_kept w t c.0 o.0 rig h m in followed n t.result.walk ts g.0 (let z = g.1 in omega arith) c.1 o.1 r)
