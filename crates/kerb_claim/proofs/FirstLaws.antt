-- The claim, from what the report answers.
use Prim.Native.Nat.{ℕ, zero, suc, ◌+◌}
use mathlib.Core.Path.{◌≡◌, refl, sym, subst}
use mathlib.Core.Bool.{Bool, true, false}
use mathlib.Core.List.{List}
use native.Mathlib.Omega.{arith}
use Rattle.std.specs.Prelude.{Option, Some, None}
use Rattle.number.specs.Read.{pick}
use Rattle.plane.specs.declared.Vec2.{Vec2}
use Rattle.path.specs.Laying.{PathRuns}
use Rattle.walk.specs.Drawn.{Drawn, view, Outcome, made, refused, refused_at}
use Rattle.walk.specs.Tests.{path_lent, path_sound, record_sound}
use Rattle.walk.specs.Rig.{draw_step}
use Rattle.walk.proofs.RecordTests.{sound_record}
use Rattle.stations.specs.Stepping.{points_at}
use Rattle.run.specs.Walking.{steps_left}
use Rattle.claim.specs.DemandThree.{Turn}
use Rattle.kerb_line.specs.Kerb.{vertices, kerb_lent, kerb_sound}
use Rattle.kerb_line.specs.Contact.{lowest_touch}
use Rattle.kerb_report.specs.Answers.{KerbReport}
use Rattle.kerb_report.specs.Answers as R
use Rattle.kerb_report.specs.Report.{call_over, first_or, after_step, look_ahead, report_of}
use Rattle.kerb_claim.specs.FirstTouch.{Question, ReportAnswered, CallsMade, RefusedFor, as_step, kerb_short, kerb_unsound, FirstTouch}
use Rattle.kerb_claim.proofs.StepLaws.{down, step_21, step_26, step_27}
use Rattle.kerb_claim.proofs.Following.{Seen, followed}
use Rattle.kerb_claim.proofs.CallsMade.{calls_there}

-- a look ahead is never refused before a step
abbrev Unrefused : KerbReport → Type 0
Unrefused R.nothing = Unit {0}
Unrefused (R.touch k p) = Unit {0}
Unrefused (R.stopped m u k) = Unit {0}
Unrefused (R.refused m) = ⊥

first_unrefused : (k : ℕ) (x : Option ℕ) (r : KerbReport) → Unrefused r → Unrefused (first_or k x r)
first_unrefused k None r h = h
first_unrefused k (Some p) r h = tt

after_unrefused : (k : ℕ) (o : Outcome) (r : KerbReport) → Unrefused r → Unrefused (after_step k o r)
after_unrefused k made r h = h
after_unrefused k (refused m) r h = tt
after_unrefused k (refused_at m u) r h = tt

look_unrefused : (asked : ℕ) (path : PathRuns) (kerb : List Vec2) (n : ℕ) (s : Drawn) → Unrefused (look_ahead n asked path kerb s)
unfolding look_ahead
look_unrefused asked path kerb zero s = tt
look_unrefused asked path kerb (suc n) s =
    let c = call_over asked path in
    let t = draw_step s c in
    let k = s.station + 1 in
    after_unrefused k t.answer _ (first_unrefused k (lowest_touch (points_at s c) (points_at t.state c) kerb) _ (look_unrefused asked path kerb n t.state))

module _ (q : Question) where
  abbrev s : Drawn
  s = view q.walk

  abbrev look : KerbReport
  look = look_ahead (steps_left q.asked s) q.asked q.path (vertices q.count q.kerb) s

  abbrev tested : Bool → Bool → Bool → Bool → Bool → KerbReport
  tested a b c d e = pick a (pick b (pick c (pick d (pick e look (R.refused 27)) (R.refused 26)) (R.refused 26)) (R.refused 21)) (R.refused 21)

  -- not refused: the tests passed
  record Passed (r : KerbReport) : Type 0 where
    path : path_lent q.asked q.path ≡ true
    stations : path_sound q.asked q.path ≡ true
    rig : record_sound q.asked s ≡ true
    answer : r ≡ look

  passed_by : (a b c d e : Bool) → path_lent q.asked q.path ≡ a → path_sound q.asked q.path ≡ c → record_sound q.asked s ≡ e
      → (r : KerbReport) → Unrefused r → r ≡ tested a b c d e → Passed r
  passed_by false b c d e p k g r u f = absurd (rw f at u)
  passed_by true false c d e p k g r u f = absurd (rw f at u)
  passed_by true true false d e p k g r u f = absurd (rw f at u)
  passed_by true true true false e p k g r u f = absurd (rw f at u)
  passed_by true true true true false p k g r u f = absurd (rw f at u)
  passed_by true true true true true p k g r u f = record { path = p; stations = k; rig = g; answer = f }

  passed : (r : KerbReport) → Unrefused r → ReportAnswered q r → Passed r
  unfolding report_of
  passed r u a = passed_by (path_lent q.asked q.path) (kerb_lent q.count q.kerb) (path_sound q.asked q.path) (kerb_sound q.count q.kerb) (record_sound q.asked s) refl refl refl r u a.answer

  seen : (ts : List Turn) → CallsMade q ts → (r : KerbReport) → Unrefused r → ReportAnswered q r → Seen q.asked q.path q.count q.kerb q.walk ts r
  seen ts w r u a =
      let p = passed r u a in
      rw p.answer
      (followed q.asked q.path q.count q.kerb p.path p.stations (steps_left q.asked s) q.walk ts p.rig (omega (arith, (sound_record q.asked s p.rig).station)) w.chain w.over w.until)

  -- refused
  same_number : {m n : ℕ} → R.refused m ≡ R.refused n → m ≡ n
  same_number e = cc

  refused_by : (a b c d e : Bool) → path_lent q.asked q.path ≡ a → kerb_lent q.count q.kerb ≡ b → path_sound q.asked q.path ≡ c → kerb_sound q.count q.kerb ≡ d → record_sound q.asked s ≡ e
      → (m : ℕ) → R.refused m ≡ tested a b c d e → RefusedFor q m
  refused_by false b c d e pa pb pc pd pe m f = as_step (λ t k o. down q.asked q.path q.walk t k o m (rw (same_number f) (step_21 q.asked q.path s pa)))
  refused_by true false c d e pa pb pc pd pe m f = kerb_short (same_number f) pb
  refused_by true true false d e pa pb pc pd pe m f = as_step (λ t k o. down q.asked q.path q.walk t k o m (rw (same_number f) (step_26 q.asked q.path s pa pc)))
  refused_by true true true false e pa pb pc pd pe m f = kerb_unsound (same_number f) pd
  refused_by true true true true false pa pb pc pd pe m f = as_step (λ t k o. down q.asked q.path q.walk t k o m (rw (same_number f) (step_27 q.asked q.path s pa pc pe)))
  refused_by true true true true true pa pb pc pd pe m f = absurd (subst Unrefused (sym f) (look_unrefused q.asked q.path (vertices q.count q.kerb) (steps_left q.asked s) s))

  refused_for : (m : ℕ) → ReportAnswered q (R.refused m) → RefusedFor q m
  unfolding report_of
  refused_for m a = refused_by (path_lent q.asked q.path) (kerb_lent q.count q.kerb) (path_sound q.asked q.path) (kerb_sound q.count q.kerb) (record_sound q.asked s) refl refl refl refl refl m a.answer

pub first_touch_lem : FirstTouch
first_touch_lem = record {
  touch = λ q ts w k p a. seen q ts w (R.touch k p) tt a;
  nothing = λ q ts w a. seen q ts w R.nothing tt a;
  stopped = λ q ts w m u k a. seen q ts w (R.stopped m u k) tt a;
  refused = λ q m a. refused_for q m a;
  calls = λ q runs e. calls_there q runs e;
}
