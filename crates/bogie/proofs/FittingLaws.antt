-- The settings that may be listed: those whose run is finished with a complete station, each once where the wheelbases grow.
use Prim.Native.Nat.{ℕ, zero, suc, ◌<◌}
use mathlib.Core.Path.{◌≡◌, refl, sym, ap, subst⁻¹}
use mathlib.Core.Logic.{inl, inr, ⊎_elim}
use mathlib.Core.List.{List, ◌∷◌}
use native.Mathlib.Omega.{arith}
use native.Mathlib.Nat.{eq-or-lt_of_le, le_of_suc-le-suc}
use lib.IntN.{ℤ}
use Rattle.std.specs.Prelude.{Option, None, Some}
use Rattle.reaches.specs.declared.Place.{Place}
use Rattle.run.specs.Ran.{Ran}
use Rattle.run.specs.Ran as R
use Rattle.ranking.specs.declared.Setting.{Setting}
use Rattle.bogie.specs.Fitting.{with_widest, with_run, fitting}
use Rattle.ranking.specs.Best.{Among, Distinct}
use Rattle.bogie.specs.Best.{Reached}

abbrev pub setting_of : ℕ → ℤ → Setting
setting_of w width = record { wheelbase = w; width = width }

-- one run more: what holds of the others holds with its setting, if it has one
with_run_lem : (P : List Setting → Type 0) (w : ℕ) (a : Ran) (others : List Setting) → P others → ((width : ℤ) → Reached a width → P (setting_of w width ∷ others)) → P (with_run w a others)
with_run_lem P w (R.finished f) others k h = by f.widest refl
  where
    by : (b : Option Place) → f.widest ≡ b → P (with_widest w b others)
    by None e = k
    by (Some p) e = h p.width (record { finish = f; place = p; finished = refl; widest = e; of = refl })
with_run_lem P w (R.stopped n u i) others k h = k
with_run_lem P w (R.refused n) others k h = k

run_has : (w : ℕ) (a : Ran) (others : List Setting) (width : ℤ) → Reached a width → Among (setting_of w width) (with_run w a others)
run_has w a others width h = rw (h.finished, h.widest) (inl (ap (setting_of w) (sym h.of)))

module _ (run : ℕ → Ran) (at : ℕ → ℕ) where
  -- where a setting that may be listed comes from
  pub record Fits (n : ℕ) (s : Setting) : Type 0 where
    pub index : ℕ
    pub inside : index < n
    pub wheelbase : s.wheelbase ≡ at index
    pub reached : Reached (run (at index)) s.width

  pub fitting_from : (n : ℕ) (s : Setting) → Among s (fitting run at n) → Fits n s
  unfolding fitting
  fitting_from zero s m = absurd m
  fitting_from (suc n) s m =
      let before : Among s (fitting run at n) → Fits (suc n) s = λ k. more (fitting_from n s k) in
      with_run_lem (λ l. Among s l → Fits (suc n) s) (at n) (run (at n)) (fitting run at n) before (λ width r. ⊎_elim (this width r) before) m
    where
      more : Fits n s → Fits (suc n) s
      more f = record { index = f.index; inside = omega (arith, f.inside); wheelbase = f.wheelbase; reached = f.reached }

      this : (width : ℤ) → Reached (run (at n)) width → s ≡ setting_of (at n) width → Fits (suc n) s
      this width r e = record { index = n; inside = omega arith; wheelbase = ap (λ (x : Setting). x.wheelbase) e; reached = subst⁻¹ (λ (x : Setting). Reached (run (at n)) x.width) e r }

  pub fitting_has : (n i : ℕ) (width : ℤ) → i < n → Reached (run (at i)) width → Among (setting_of (at i) width) (fitting run at n)
  unfolding fitting
  fitting_has zero i width l h = absurd (omega arith)
  fitting_has (suc n) i width l h =
      ⊎_elim
      (λ e. subst⁻¹ (λ (k : ℕ). Reached (run (at k)) width → Among (setting_of (at k) width) (with_run (at n) (run (at n)) (fitting run at n))) e (run_has (at n) (run (at n)) (fitting run at n) width) h)
      (λ k. let m = fitting_has n i width k h in with_run_lem (Among (setting_of (at i) width)) (at n) (run (at n)) (fitting run at n) m (λ z r. inr m))
      (eq-or-lt_of_le (le_of_suc-le-suc l))

  module _ (grows : (i k : ℕ) → i < k → at i < at k) where
    pub fitting_distinct : (n : ℕ) → Distinct (fitting run at n)
    unfolding fitting
    fitting_distinct zero = tt
    fitting_distinct (suc n) = let d = fitting_distinct n in with_run_lem Distinct (at n) (run (at n)) (fitting run at n) d (λ width r. (λ t m e. apart t (fitting_from n t m) e, d))
      where
        apart : (t : Setting) → Fits n t → at n ≡ t.wheelbase → ⊥
        apart t f e = omega (arith, grows f.index n f.inside, f.wheelbase, e)
