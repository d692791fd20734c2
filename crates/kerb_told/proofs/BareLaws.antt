-- An answer that is not 0 has no entries.
use mathlib.Core.Path.{◌≡◌, refl}
use mathlib.Core.List.{[]}
use Rattle.kerb_reader.specs.Answers.{KerbRead}
use Rattle.kerb_reader.specs.Answers as R
use Rattle.kerbed.specs.Answers.{Kerbed}
use Rattle.kerbed.specs.Answers as K
use Rattle.kerb_told.specs.Entries.{touch_told, ticks_told}

pub touch_bare : (a : Kerbed) → ((touch_told a).number ≡ 0 → ⊥) → (touch_told a).entries ≡ []
touch_bare K.nothing h = absurd (h refl)
touch_bare (K.touch k p) h = absurd (h refl)
touch_bare (K.stopped n u k) h = refl
touch_bare (K.refused n p) h = refl

pub ticks_bare : (a : KerbRead) → ((ticks_told a).number ≡ 0 → ⊥) → (ticks_told a).entries ≡ []
ticks_bare (R.vertices n) h = absurd (h refl)
ticks_bare (R.refused_at n p) h = refl
ticks_bare (R.refused n) h = refl
