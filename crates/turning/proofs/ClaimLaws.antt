-- A refusal writes nothing.
use Prim.Native.Nat.{ℕ, zero, suc, ◌≤◌}
use mathlib.Core.Path.{◌≡◌, refl, ◌∙◌, ap}
use mathlib.Core.Bool.{Bool, true, false}
use mathlib.Core.List.{List, [], ◌∷◌}
use mathlib.Core.Logic.{◌⊎◌, inl, inr}
use native.Mathlib.Omega.{arith}
use borrow.Author.Tests.{leb-true}
use lib.ListN.{length}
use lib.Seq.{sets}
use lib.Dec.{leb}
use lib.IntN.{ℤ}
use Rattle.number.specs.Read.{Read, got, refused, pick}
use Rattle.job.specs.declared.Job.{Job}
use Rattle.job_reader.specs.Record.{read_job}
use Rattle.path.specs.Stations.{stations}
use Rattle.path.specs.Laying.{PathRuns}
use Rattle.walk.specs.Drawn.{Drawn, Outcome, made, refused as refused_step, refused_at}
use Rattle.reaches.specs.Cells.{Reaches}
use Rattle.stations.specs.Placing.{unless_refused}
use Rattle.run.specs.Run.{ran_by, ran_over, ran_answer, run_refusal, job_path, job_course}
use Rattle.swept.specs.Swept.{swept_run, swept_of, swept_into, path_into, reaches_into}
use Rattle.ranking.specs.declared.Setting.{Setting}
use Rattle.bogie.specs.Settings.{last_setting, job_set}
use Rattle.bogie.specs.declared.Rail.{Rail}
use Rattle.ranking.specs.Ranking.{listed_of}
use Rattle.bogie.specs.List.{list_refusal, ranked_settings, list_answer}
use Rattle.offered.specs.Offered.{offered_into, path_into as listPath, reaches_into as listReaches}
use Rattle.answer_run.specs.Answers.{Told, Answered}
use Rattle.answer_run.specs.Turns.{path_told, unit_told}
use Rattle.answer_run.proofs.BareLaws.{path_bare, unit_bare}
use Rattle.entries.specs.Answers.{sweep_told}
use Rattle.entries.specs.Lists.{settings_told}
use Rattle.entries.proofs.BareLaws.{sweep_bare, settings_bare}
use Rattle.kerb_line.specs.Kerb.{KerbRuns}
use Rattle.kerb_reader.specs.declared.Survey.{Survey}
use Rattle.kerb_reader.specs.Answers as K
use Rattle.kerb_reader.specs.Geometry.{vertices_of, read_geometry}
use Rattle.kerb_reader.specs.Ticks.{room_in, east_ticks, north_ticks, kerb_answer, ticks_in}
use Rattle.kerbed.specs.Kerbed.{kerbed_ticks}
use Rattle.kerb_told.specs.Entries.{ticks_told, touch_told}
use Rattle.kerb_told.proofs.BareLaws.{ticks_bare, touch_bare}
use Rattle.turning.specs.Calls.{UnitTold, TakenApart, RunCalled}
use Rattle.turning.specs.Settings.{ListApart, OfferApart, SettingsCalled}
use Rattle.turning.specs.Kerbs.{ReadApart, ticks_left, TicksCalled}
use Rattle.turning.specs.Claims.{BeforeWalk, BeforeWalks, RefusalWritesNothing}

-- an answer that has entries only beside 0
kept : (room : ℕ) (t : Told) → ((t.number ≡ 0 → ⊥) → t.entries ≡ []) → (before : List ℤ) (n : ℕ) (after : List ℤ) → Answered room t before n after → (n ≡ 0 → ⊥) → after ≡ before
kept room t bare before n after k h = by (leb room (length before)) k.number k.run
  where
    by : (b : Bool) → n ≡ pick b t.number 21 → after ≡ pick b (sets before 0 t.entries) before → after ≡ before
    by true p q = q ∙ ap (sets before 0) (bare (λ z. h (p ∙ z)))
    by false p q = q

-- runs that are left alone, whether or not the answer run has the room
where_room : (room : ℕ) (before : List ℤ) {p q : PathRuns} {r s : Reaches} (p' : PathRuns) (r' : Reaches) → p' ≡ pick (leb room (length before)) q p → r' ≡ pick (leb room (length before)) s r
    → (room ≤ length before → (q ≡ p) × (s ≡ r)) → (p' ≡ p) × (r' ≡ r)
where_room room before {p} {q} {r} {s} p' r' e f h = by (leb room (length before)) refl e f
  where
    by : (b : Bool) → leb room (length before) ≡ b → p' ≡ pick b q p → r' ≡ pick b s r → (p' ≡ p) × (r' ≡ r)
    by true z f g = let u = h (leb-true room (length before) z) in (f ∙ u.0, g ∙ u.1)
    by false z f g = (f, g)

-- such a number tells no walk
module _ (a : ℕ) (h : a ≡ 0 → ⊥) (m : BeforeWalk a) where
  stopped : (n u k : ℕ) → UnitTold a n u k → ⊥
  stopped n u k t = by t.named.number
    where
      by : (n ≡ 22) ⊎ (n ≡ 23) → ⊥
      by (inl e) = omega (arith, t.number)
      by (inr e) = omega (arith, t.number)

  no_walk_lem : (asked : ℕ) (path : PathRuns) (o : Outcome) (s : Drawn) (r : Reaches) → TakenApart a (swept_run (ran_by asked path o s r)) → ⊥
  no_walk_lem asked path made s r t = h t
  no_walk_lem asked path (refused_step n) s r t = stopped n _ _ t
  no_walk_lem asked path (refused_at n u) s r t = stopped n u _ t

  module _ (p : PathRuns) (r : Reaches) where
    untouched : (x : Read Job) → TakenApart a (swept_into x p r) → (path_into x p r ≡ p) × (reaches_into x p r ≡ r)
    untouched (refused n b) t = (refl, refl)
    untouched (got j e) t = by (run_refusal j p r) t
      where
        by : (f : ℕ) → TakenApart a (swept_run (ran_answer f (ran_over (length (stations j)) (job_path j p) (job_course j p r)))) → (unless_refused f (job_path j p) p ≡ p) × (unless_refused f (job_course j p r).runs r ≡ r)
        by zero t = absurd (no_walk_lem (length (stations j)) (job_path j p) (job_course j p r).answer (job_course j p r).state (job_course j p r).runs t)
        by (suc f) t = (refl, refl)

    runs_kept : (s : List ℕ) (before : List ℤ) (p' : PathRuns) (r' : Reaches) (after : List ℤ) → RunCalled s p r before a p' r' after → (p' ≡ p) × (r' ≡ r)
    runs_kept s before p' r' after k = where_room 8 before p' r' k.path k.reaches (λ g. untouched (read_job s) (k.apart g))

-- ---- a list

-- such a number tells no list of walks
module _ (a : ℕ) (h : a ≡ 0 → ⊥) (m : BeforeWalks a) where
  no_list : (l : List Setting) → ListApart a (listed_of l) → ⊥
  no_list [] t = omega (arith, t.number)
  no_list (s ∷ []) t = h t
  no_list (s ∷ u ∷ []) t = h t
  no_list (s ∷ u ∷ w ∷ l) t = h t

  module _ (b : Rail) (p : PathRuns) (r : Reaches) where
    list_untouched : (x : Read Job) → OfferApart a (offered_into x b p r) → (listPath x b p r ≡ p) × (listReaches x b p r ≡ r)
    list_untouched (refused n k) t = (refl, refl)
    list_untouched (got j e) t = by (list_refusal j b p r) t
      where
        by : (f : ℕ) → ListApart a (list_answer f (listed_of (ranked_settings j b p r))) → (unless_refused f (job_path j p) p ≡ p) × (unless_refused f (job_course (job_set j (last_setting b)) p r).runs r ≡ r)
        by zero t = absurd (no_list (ranked_settings j b p r) t)
        by (suc f) t = (refl, refl)

    list_kept : (s : List ℕ) (before : List ℤ) (p' : PathRuns) (r' : Reaches) (after : List ℤ) → SettingsCalled s b p r before a p' r' after → (p' ≡ p) × (r' ≡ r)
    list_kept s before p' r' after k =
        where_room 7 before p' r' k.path k.reaches (λ g. list_untouched (read_job s) (k.apart g))

-- ---- a kerb

-- a reading that is refused leaves a run
module _ (a : ℕ) (h : a ≡ 0 → ⊥) (k : KerbRuns) where
  ticks_kept : (x : Read Survey) → ReadApart a (kerb_answer x k.xs k.ys) → (ticks : Survey → List ℤ) (run : List ℤ) → ticks_in x ticks k.xs k.ys run ≡ run
  ticks_kept (refused n p) t ticks run = refl
  ticks_kept (got g e) t ticks run = by (room_in (length (vertices_of g)) k.xs k.ys) t
    where
      by : (b : Bool) → ReadApart a (pick b (K.vertices (length (vertices_of g))) (K.refused 21)) → pick b (sets run 0 (ticks g)) run ≡ run
      by true t = absurd (h t)
      by false t = refl

  kerb_kept : (g : List ℕ) (before : List ℤ) (k' : KerbRuns) (after : List ℤ) → TicksCalled g k before a k' after → k' ≡ k
  kerb_kept g before k' after c = by (leb 1 (length before)) refl c.ticks
    where
      left : 1 ≤ length before → ticks_left g k ≡ k
      left m =
          let p = ticks_kept (read_geometry g) (c.apart m) east_ticks k.xs in
          let q = ticks_kept (read_geometry g) (c.apart m) north_ticks k.ys in
          λ i. record { xs = p i; ys = q i }

      by : (b : Bool) → leb 1 (length before) ≡ b → k' ≡ pick b (ticks_left g k) k → k' ≡ k
      by true z e = e ∙ left (leb-true 1 (length before) z)
      by false z e = e

pub writes_nothing : RefusalWritesNothing
writes_nothing = record {
  sweep = λ s before a after k. kept 8 (sweep_told (swept_of s)) (sweep_bare (swept_of s)) before a after k.told;
  run = λ s p r before a p' r' after k. kept 8 (sweep_told (swept_into (read_job s) p r)) (sweep_bare (swept_into (read_job s) p r)) before a after k.told;
  path_turn_lem = λ t. kept 4 (path_told t) (path_bare t);
  unit_turn_lem = λ t. kept 2 (unit_told t) (unit_bare t);
  seven_runs = λ s p r before a p' r' after k h m. runs_kept a h m p r s before p' r' after k;
  settings = λ s b p r before a p' r' after k. kept 7 (settings_told (offered_into (read_job s) b p r)) (settings_bare (offered_into (read_job s) b p r)) before a after k.told;
  settings_runs = λ s b p r before a p' r' after k h m. list_kept a h m b p r s before p' r' after k;
  kerb_ticks = λ g k before a k' after c h. (kept 1 (ticks_told (kerb_answer (read_geometry g) k.xs k.ys)) (ticks_bare (kerb_answer (read_geometry g) k.xs k.ys)) before a after c.told h, kerb_kept a h k g before k' after c);
  kerb_touch = λ s n k before a after c. kept 3 (touch_told (kerbed_ticks (read_job s) n k)) (touch_bare (kerbed_ticks (read_job s) n k)) before a after c.told;
}
