-- An answer that is not 0 has no entries.
use mathlib.Core.Path.{◌≡◌, refl}
use mathlib.Core.List.{[]}
use Rattle.swept.specs.Answers.{Swept}
use Rattle.swept.specs.Answers as S
use Rattle.ranking.specs.Ranking.{Listed}
use Rattle.ranking.specs.Ranking as L
use Rattle.offered.specs.Answers.{Offered}
use Rattle.offered.specs.Answers as O
use Rattle.entries.specs.Answers.{sweep_told}
use Rattle.entries.specs.Lists.{list_told, settings_told}

pub sweep_bare : (a : Swept) → ((sweep_told a).number ≡ 0 → ⊥) → (sweep_told a).entries ≡ []
sweep_bare (S.finished f) h = absurd (h refl)
sweep_bare (S.stopped n u k) h = refl
sweep_bare (S.refused n p) h = refl

list_bare : (l : Listed) → ((list_told l).number ≡ 0 → ⊥) → (list_told l).entries ≡ []
list_bare (L.one a) h = absurd (h refl)
list_bare (L.two a b) h = absurd (h refl)
list_bare (L.three a b c) h = absurd (h refl)
list_bare (L.refused n) h = refl

pub settings_bare : (a : Offered) → ((settings_told a).number ≡ 0 → ⊥) → (settings_told a).entries ≡ []
settings_bare (O.listed l) h = list_bare l h
settings_bare (O.refused n p) h = refl
