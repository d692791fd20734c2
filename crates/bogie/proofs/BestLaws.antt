-- The claim about the list: of a job that is walked, and of one that is refused before any walk.
use Prim.Native.Nat.{ℕ, zero, suc, ◌<◌}
use mathlib.Core.Path.{◌≡◌, refl, sym, ◌∙◌, ap, subst⁻¹}
use mathlib.Core.List.{List}
use native.Mathlib.Omega.{arith}
use lib.IntN.{ℤ}
use Rattle.job.specs.declared.Job.{Job}
use Rattle.path.specs.Stations.{stations}
use Rattle.path.specs.Laying.{PathRuns}
use Rattle.reaches.specs.Cells.{Reaches}
use Rattle.run.specs.Ran.{Ran}
use Rattle.run.specs.Run.{job_path, job_course}
use Rattle.ranking.specs.declared.Setting.{Setting}
use Rattle.ranking.specs.Ranking.{Listed, listed_of}
use Rattle.ranking.specs.Ranking as L
use Rattle.bogie.specs.declared.Rail.{Rail}
use Rattle.bogie.specs.Settings.{setting_at, last_setting, job_set}
use Rattle.bogie.specs.Fitting.{fitting}
use Rattle.bogie.specs.List.{list_refusal, ran_at, ranked_settings}
use Rattle.ranking.specs.Best.{Among, BestOfThese}
use Rattle.bogie.specs.Best.{Reached, RunReaches, Walked, BestOf, BestSettings}
use Rattle.bogie.proofs.RailLaws.{setting_grows}
use Rattle.ranking.proofs.RankLaws.{best_three_lem}
use Rattle.bogie.proofs.FittingLaws.{setting_of, Fits, fitting_from, fitting_has, fitting_distinct}
use Rattle.bogie.proofs.RefusalLaws.{refusal_most, is_walked, none_refused, run_first, limits_next, none_at, run_is, is_run}

module _ (j : Job) (b : Rail) (p : PathRuns) (r : Reaches) (walked : Walked j b p r) where
  abbrev fits : List Setting
  fits = fitting (ran_at j p r) (setting_at b) b.number

  -- whatever a run at a setting answers is what its walk comes to
  run_reaches : (s : Setting) (f : Fits (ran_at j p r) (setting_at b) b.number s) → RunReaches j p r (setting_at b f.index) s.width
  run_reaches s f a q t e =
      subst⁻¹ (λ (x : Ran). Reached x s.width) (is_run (job_set j (setting_at b f.index)) p r (none_at j b p r walked f.index f.inside) e).0 f.reached

  reached : (i : ℕ) (width : ℤ) → i < b.number → RunReaches j p r (setting_at b i) width → Among (setting_of (setting_at b i) width) fits
  reached i width l h =
      fitting_has (ran_at j p r) (setting_at b) b.number i width l (h _ _ _ (run_is (job_set j (setting_at b i)) p r (none_at j b p r walked i l)))

  fits_of : (s : Setting) → Among s fits → Fits (ran_at j p r) (setting_at b) b.number s
  fits_of s m = fitting_from (ran_at j p r) (setting_at b) b.number s m

  best : BestOfThese fits (listed_of (ranked_settings j b p r))
  best = best_three_lem fits (fitting_distinct (ran_at j p r) (setting_at b) (λ i k l. setting_grows b i k walked.limits.pitch l) b.number)

  best_listed : (p' : PathRuns) (r' : Reaches) → p' ≡ job_path j p → r' ≡ (job_course (job_set j (last_setting b)) p r).runs → BestOf j b p r (listed_of (ranked_settings j b p r)) p' r'
  unfolding stations
  best_listed p' r' laid left = record {
    settings = λ s m.
        let f = fits_of s (best.from s m) in
        record {
          index = f.index;
          inside = f.inside;
          wheelbase = f.wheelbase;
          run = subst⁻¹ (λ (w : ℕ). RunReaches j p r w s.width) f.wheelbase (run_reaches s f);
        };
    three = best.three;
    ordered = best.ordered;
    all = λ _ i width l h. best.all (setting_of (setting_at b i) width) (reached i width l h);
    none = λ e. (walked, λ i width l h. best.none e (setting_of (setting_at b i) width) (reached i width l h));
    only = λ _ h. best.only (λ s m. let f = fits_of s m in h f.index s.width f.inside (run_reaches s f));
    runs = λ _ i l a q s e.
        let last : setting_at b i ≡ last_setting b = ap (setting_at b) (omega (arith, l)) in
        let k = is_run (job_set j (setting_at b i)) p r (none_at j b p r walked i (omega (arith, l))) e in
        (laid ∙ sym k.1, left ∙ ap (λ (w : ℕ). (job_course (job_set j w) p r).runs) (sym last) ∙ sym k.2);
    before = λ h. absurd (h walked.run);
    outside = λ _ h. absurd (h walked.limits);
  }

best_refused : (j : Job) (b : Rail) (p : PathRuns) (r : Reaches) (n : ℕ) (p' : PathRuns) (r' : Reaches) → list_refusal j b p r ≡ suc n → p' ≡ p → r' ≡ r → BestOf j b p r (L.refused (suc n)) p' r'
best_refused j b p r n p' r' e f g =
    let not : Walked j b p r → ⊥ = λ w. omega (arith, none_refused j b p r w, e) in
    record {
      settings = λ s m. absurd m;
      three = omega arith;
      ordered = tt;
      all = λ w. absurd (not w);
      none = λ h. let k : suc n ≡ 30 = cc in absurd (omega (arith, refusal_most j b p r));
      only = λ w. absurd (not w);
      runs = λ w. absurd (not w);
      before = λ h. (ap L.refused (sym e ∙ run_first j b p r h), (f, g));
      outside = λ h k. (ap L.refused (sym e ∙ limits_next j b p r h k), (f, g));
    }

pub best_settings_lem : BestSettings
best_settings_lem j b p r answer p' r' h = by (list_refusal j b p r) refl
  where
    by : (n : ℕ) → list_refusal j b p r ≡ n → BestOf j b p r answer p' r'
    by zero e = subst⁻¹ (λ (a : Listed). BestOf j b p r a p' r') (rw e at h.answered) (best_listed j b p r (is_walked j b p r e) p' r' (rw e at h.path) (rw e at h.reaches))
    by (suc n) e = subst⁻¹ (λ (a : Listed). BestOf j b p r a p' r') (rw e at h.answered) (best_refused j b p r n p' r' e (rw e at h.path) (rw e at h.reaches))
