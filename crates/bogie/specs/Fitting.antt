-- Which settings may be listed (02, N1): "all that reach the last station with a complete station".
use Rattle.std.specs.Prelude.{ℕ, zero, suc, Option, None, Some, List, [], ◌∷◌}
use Rattle.reaches.specs.declared.Place.{Place}
use Rattle.run.specs.Ran.{Ran}
use Rattle.run.specs.Ran as R
use Rattle.ranking.specs.declared.Setting.{Setting}
use Rattle.ranking.specs.Ranking.{Listed, entered}

-- a setting whose walk came to its end with a complete station joins the others
abbrev pub with_widest : ℕ → Option Place → List Setting → List Setting
with_widest w None others = others
with_widest w (Some p) others = record { wheelbase = w; width = p.width } ∷ others

-- one whose walk was stopped does not
abbrev pub with_run : ℕ → Ran → List Setting → List Setting
with_run w (R.finished f) others = with_widest w f.widest others
with_run w (R.stopped n u k) others = others
with_run w (R.refused n) others = others

-- of the first n settings, by what the run at each wheelbase comes to, those that may be listed
unfoldable pub fitting : (ℕ → Ran) → (ℕ → ℕ) → ℕ → List Setting
fitting run at zero = []
fitting run at (suc i) = with_run (at i) (run (at i)) (fitting run at i)

-- the list after one more run: its setting enters where the walk reached the last station with a complete station
abbrev pub widest_entered : ℕ → Option Place → Listed → Listed
widest_entered w None l = l
widest_entered w (Some p) l = entered (record { wheelbase = w; width = p.width }) l

abbrev pub run_entered : ℕ → Ran → Listed → Listed
run_entered w (R.finished f) l = widest_entered w f.widest l
run_entered w (R.stopped n u k) l = l
run_entered w (R.refused n) l = l
