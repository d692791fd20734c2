-- One more run, on the list of those before it.
use Prim.Native.Nat.{ℕ}
use mathlib.Core.Path.{◌≡◌, refl}
use mathlib.Core.List.{List}
use Rattle.std.specs.Prelude.{Option, None, Some}
use Rattle.reaches.specs.declared.Place.{Place}
use Rattle.run.specs.Ran.{Ran}
use Rattle.run.specs.Ran as R
use Rattle.ranking.specs.declared.Setting.{Setting}
use Rattle.ranking.specs.Ranking.{ranked, listed_of}
use Rattle.ranking.proofs.EnterLaws.{enter_first}
use Rattle.bogie.specs.Fitting.{run_entered, widest_entered, with_run, with_widest}

module _ (w : ℕ) (ts : List Setting) where
  widest_first : (b : Option Place) → widest_entered w b (listed_of (ranked ts)) ≡ listed_of (ranked (with_widest w b ts))
  unfolding ranked
  widest_first None = refl
  widest_first (Some p) = enter_first (record { wheelbase = w; width = p.width }) (ranked ts)

  pub run_first : (a : Ran) → run_entered w a (listed_of (ranked ts)) ≡ listed_of (ranked (with_run w a ts))
  run_first (R.finished f) = widest_first f.widest
  run_first (R.stopped n u k) = refl
  run_first (R.refused n) = refl
