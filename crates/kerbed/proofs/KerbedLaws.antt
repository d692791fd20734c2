-- From what `lay` and `report` ensure to what a job and a kerb come to.
use Prim.Native.Nat.{ℕ, zero, suc}
use mathlib.Core.Path.{◌≡◌, refl, sym, ◌∙◌, ap, subst}
use mathlib.Core.Bool.{Bool, true, false}
use mathlib.Core.List.{List}
use mathlib.Core.Logic.{inl, inr}
use native.Mathlib.Omega.{arith}
use lib.ListN.{length}
use Rattle.std.proofs.lemmas.Bool.{and_parts}
use Rattle.std.specs.Prelude.{Option, Some, None, Result, Ok, Err}
use Rattle.std.specs.Result.{MatchResult, IsErrAnd}
use Rattle.refusal.specs.Numbers.{answered, refused as turned_down, number_of}
use Rattle.refusal.specs.declared.Fault.{Fault}
use Rattle.number.specs.Read.{pick}
use Rattle.plane.specs.declared.Vec2.{Vec2}
use Rattle.job.specs.declared.Job.{Job}
use Rattle.job.specs.Faults.{judge}
use Rattle.path.specs.Stations.{stations}
use Rattle.path.specs.Laying.{PathRuns, LayEnsures}
use Rattle.path.proofs.JobLaws.{stations_answered, laid_answered}
use Rattle.walk.specs.Drawn.{Drawn, Outcome, made, refused, refused_at}
use Rattle.walk.specs.Tests.{lent, path_lent, reaches_lent, path_sound, record_sound}
use Rattle.walk.specs.Rig.{draw_step}
use Rattle.walk.proofs.PathTests.{path_station}
use Rattle.walk.proofs.RecordTests.{lent_path}
use Rattle.walk.proofs.SoundKept.{start_sound}
use Rattle.reaches.specs.Cells.{lengths_of}
use Rattle.stations.specs.Stepping.{points_at}
use Rattle.run.specs.Run.{job_path}
use Rattle.run.specs.Walking.{steps_left}
use Rattle.run.specs.declared.RunRefusal.{RunRefusal}
use Rattle.run.specs.declared.RunRefusal.TheVariants as U
use Rattle.run.specs.Ran.{as_ran}
use Rattle.run.proofs.RunLaws.{tests_passed, runnable}
use Rattle.swept.specs.declared.SweepRefusal.{SweepRefusal}
use Rattle.swept.specs.declared.SweepRefusal.TheVariants as W
use Rattle.swept.specs.Answers.{as_swept}
use Rattle.swept.specs.Swept.{swept_run, empty_path, empty_reaches}
use Rattle.swept.proofs.SweptLaws.{run_passes}
use Rattle.kerb_line.specs.Kerb.{KerbRuns, vertices, kerb_lent, kerb_sound}
use Rattle.kerb_line.specs.Contact.{lowest_touch}
use Rattle.kerb_report.specs.declared.Touch.{Touch}
use Rattle.kerb_report.specs.Answers.{KerbReport, as_report}
use Rattle.kerb_report.specs.Answers as R
use Rattle.kerb_report.specs.Report.{call_over, first_or, after_step, look_ahead, report_of}
use Rattle.kerb_report.specs.Ranges.{ReportedSo, ReportEnsures}
use Rattle.kerbed.specs.Answers.{Kerbed, as_kerbed}
use Rattle.kerbed.specs.Answers as K
use Rattle.kerbed.specs.Kerbed.{report_told, placed_rig, kerbed_job}
use Rattle.kerbed.specs.Ranges.{KerbedSo}
use Rattle.kerbed.specs.Inner.{Placeable, JobEnsures}

-- ---- 27 is not answered where the record is sound

pub clash : {A : Type 0} → ◌≡◌ {A = ℕ} 0 1 → A
clash z = absurd (omega arith)

-- looking ahead refuses nothing
looked : (k m : ℕ) (o : Outcome) (x : Option ℕ) (later : KerbReport) → (later ≡ R.refused m → ⊥) → after_step k o (first_or k x later) ≡ R.refused m → ⊥
looked k m made (Some p) later h e = clash cc
looked k m made None later h e = h e
looked k m (refused n) x later h e = clash cc
looked k m (refused_at n u) x later h e = clash cc

ahead_passes : (n asked : ℕ) (path : PathRuns) (kerb : List Vec2) (s : Drawn) (m : ℕ) → look_ahead n asked path kerb s ≡ R.refused m → ⊥
unfolding look_ahead
ahead_passes zero asked path kerb s m e = clash cc
ahead_passes (suc n) asked path kerb s m e =
    let c = call_over asked path in
    let t = draw_step s c in
    looked _ m t.answer (lowest_touch (points_at s c) (points_at t.state c) kerb) (look_ahead n asked path kerb t.state) (ahead_passes n asked path kerb t.state m) e

by_tests : (a b c d e : Bool) (r : KerbReport) → e ≡ true → (r ≡ R.refused 27 → ⊥)
    → pick a (pick b (pick c (pick d (pick e r (R.refused 27)) (R.refused 26)) (R.refused 26)) (R.refused 21)) (R.refused 21) ≡ R.refused 27 → ⊥
by_tests false b c d e r t h z = let y : ◌≡◌ {A = ℕ} 21 27 = cc in absurd (omega arith)
by_tests true false c d e r t h z = let y : ◌≡◌ {A = ℕ} 21 27 = cc in absurd (omega arith)
by_tests true true false d e r t h z = let y : ◌≡◌ {A = ℕ} 26 27 = cc in absurd (omega arith)
by_tests true true true false e r t h z = let y : ◌≡◌ {A = ℕ} 26 27 = cc in absurd (omega arith)
by_tests true true true true true r t h z = h z
by_tests true true true true false r t h z = clash cc

no_27 : (s : Drawn) (asked : ℕ) (p : PathRuns) (n : ℕ) (kerb : KerbRuns) → record_sound asked s ≡ true → report_of s asked p n kerb ≡ R.refused 27 → ⊥
unfolding report_of
no_27 s asked p n kerb e =
    by_tests (path_lent asked p) (kerb_lent n kerb) (path_sound asked p) (kerb_sound n kerb) (record_sound asked s) (look_ahead (steps_left asked s) asked p (vertices n kerb) s) e
    (ahead_passes (steps_left asked s) asked p (vertices n kerb) s 27)

-- nothing is refused where every test is passed
all_passed : (a b c d e : Bool) (r x y z w v : KerbReport) → a ≡ true → b ≡ true → c ≡ true → d ≡ true → e ≡ true → pick a (pick b (pick c (pick d (pick e r x) y) z) w) v ≡ r
all_passed a b c d e r x y z w v p q s t u = rw (p, q, s, t, u) refl

report_passes : (s : Drawn) (asked : ℕ) (p : PathRuns) (n : ℕ) (kerb : KerbRuns) → path_lent asked p ≡ true → kerb_lent n kerb ≡ true → path_sound asked p ≡ true → kerb_sound n kerb ≡ true → record_sound asked s ≡ true
    → (m : ℕ) → report_of s asked p n kerb ≡ R.refused m → ⊥
unfolding report_of
report_passes s asked p n kerb a b c d e m h =
    ahead_passes (steps_left asked s) asked p (vertices n kerb) s m (sym (all_passed (path_lent asked p) (kerb_lent n kerb) (path_sound asked p) (kerb_sound n kerb) (record_sound asked s) _ _ _ _ _ _ a b c d e) ∙ h)

told_passes : (r : KerbReport) (n p : ℕ) → ((m : ℕ) → r ≡ R.refused m → ⊥) → report_told r ≡ K.refused n p → ⊥
told_passes R.nothing n p h e = clash cc
told_passes (R.touch k q) n p h e = clash cc
told_passes (R.stopped m u k) n p h e = clash cc
told_passes (R.refused m) n p h e = h m refl

-- a report's answer with what refused it told over
refusal_told : (e : RunRefusal) (x : SweepRefusal) → as_swept (Err x) ≡ swept_run (as_ran (Err e)) → as_kerbed (Err x) ≡ report_told (as_report (Err e))
refusal_told (U.Stopped s) (W.Stopped t) h = cc
refusal_told (U.Stopped s) (W.Refused t) h = clash cc
refusal_told (U.Refused f) (W.Stopped t) h = clash cc
refusal_told (U.Refused f) (W.Refused t) h = cc

pub told_over : (a : Result (Option Touch) RunRefusal) (b : Result (Option Touch) SweepRefusal) → MatchResult a (λ f. b ≡ Ok f) (λ e. IsErrAnd b (λ x. as_swept (Err x) ≡ swept_run (as_ran (Err e))))
    → as_kerbed b ≡ report_told (as_report a)
told_over (Ok None) b h = ap as_kerbed h
told_over (Ok (Some t)) b h = ap as_kerbed h
told_over (Err e) (Ok f) h = absurd h
told_over (Err e) (Err x) h = refusal_told e x h

-- ---- ranges

told_so : (r : KerbReport) → ReportedSo r → (r ≡ R.refused 27 → ⊥) → KerbedSo (report_told r)
told_so R.nothing h k = tt
told_so (R.touch s p) h k = record { step = h.step; point = omega (arith, h.point) }
told_so (R.stopped m u s) h k = record { number = h.number; unit = h.unit; step = h.step }
told_so (R.refused m) (inl e) k = inr (inl e, refl)
told_so (R.refused m) (inr (inl e)) k = inr (inr e, refl)
told_so (R.refused m) (inr (inr e)) k = absurd (k (ap R.refused e))

-- ---- a path laid in runs of zeros

module _ (j : Job) (sound : judge j ≡ 0) where
  -- it is laid
  pub laid_not_refused : (f : Fault) (q : PathRuns) → LayEnsures j empty_path (Err f) q → ⊥
  laid_not_refused f q t =
      let room = (tests_passed j empty_path empty_reaches (run_passes j sound)).1 in
      let z : turned_down (number_of f) ≡ answered (length (stations j)) = t.answered ∙ sym (laid_answered j empty_path sound room).answered in
      clash cc

  module _ (m : ℕ) (q : PathRuns) (t : LayEnsures j empty_path (Ok m) q) where
    reaches_lent_lem : reaches_lent m (lengths_of empty_reaches) ≡ true
    reaches_lent_lem =
        let r = (tests_passed j empty_path empty_reaches (run_passes j sound)).2 in
        subst (λ (x : ℕ). reaches_lent x (lengths_of empty_reaches) ≡ true) (sym (stations_answered j empty_path m q t).2) r

    -- and passes 21, 26 and 27
    pub placeable : Placeable j m q
    unfolding lent
    placeable =
        let r = runnable j empty_path m q t empty_reaches reaches_lent_lem in
        record { lent = (and_parts (path_lent m q) (reaches_lent m (lengths_of empty_reaches)) r.lent).0; path = r.path; vehicle = r.vehicle }

    rig_sound : record_sound m (placed_rig j q) ≡ true
    rig_sound =
        let l = lent_path m q placeable.lent in
        start_sound m j.vehicle _ l.least placeable.vehicle (path_station q m 0 placeable.path l.least).heading

    pub job_told : (n : ℕ) (kerb : KerbRuns) (r : KerbReport) (a : Kerbed) → ReportEnsures (placed_rig j q) m q n kerb r → a ≡ report_told r → JobEnsures j n kerb a
    unfolding kerbed_job
    job_told n kerb r a k e =
        let x = stations_answered j empty_path m q t in
        let f : ℕ → PathRuns → Kerbed = λ y z. report_told (report_of (placed_rig j z) y z n kerb) in
        record {
          answer = e ∙ ap report_told k.answer ∙ ap (λ (y : ℕ). f y q) x.2 ∙ ap (f (length (stations j))) x.3;
          ranges = subst KerbedSo (sym e) (told_so r k.ranges (λ z. no_27 (placed_rig j q) m q n kerb rig_sound (sym k.answer ∙ z)));
        }

  -- a kerb that passes its tests is not refused
  pub job_passes : (n : ℕ) (kerb : KerbRuns) → kerb_lent n kerb ≡ true → kerb_sound n kerb ≡ true → (m p : ℕ) → kerbed_job j n kerb ≡ K.refused m p → ⊥
  unfolding kerbed_job
  job_passes n kerb a b m p e =
      let path = job_path j empty_path in
      let asked = length (stations j) in
      let t = laid_answered j empty_path sound (tests_passed j empty_path empty_reaches (run_passes j sound)).1 in
      let q = placeable asked path t in
      told_passes (report_of (placed_rig j path) asked path n kerb) m p (report_passes (placed_rig j path) asked path n kerb q.lent a q.path b (rig_sound asked path t)) e
