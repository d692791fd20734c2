-- What the list is among settings of different wheelbases, apart from how it is made.
use Rattle.std.specs.Prelude.{◌≤◌, ◌<◌, ◌≡◌, ◌⊎◌, List, [], ◌∷◌, length, ◌<ℤ◌}
use Rattle.ranking.specs.declared.Setting.{Setting}
use Rattle.ranking.specs.Ranking.{Listed}
use Rattle.ranking.specs.Ranking.{refused}
use Rattle.ranking.specs.Ranking.{ranked, listed_of, settings_in}

-- "least widest width first, the shorter wheelbase first among equals"
abbrev pub Before : Setting → Setting → Type 0
Before s t = (s.width <ℤ t.width) ⊎ ((s.width ≡ t.width) × (s.wheelbase < t.wheelbase))

-- each strictly before the next, so that none stands twice
abbrev pub InOrder : List Setting → Type 0
InOrder [] = Unit {0}
InOrder (s ∷ []) = Unit {0}
InOrder (s ∷ t ∷ ts) = Before s t × InOrder (t ∷ ts)

abbrev pub Among : Setting → List Setting → Type 0
Among s [] = ⊥
Among s (t ∷ ts) = (s ≡ t) ⊎ Among s ts

-- listed; or three are, and each comes before it
abbrev pub ListedOrBeaten : Setting → List Setting → Type 0
ListedOrBeaten s l = Among s l ⊎ ((length l ≡ 3) × ((t : Setting) → Among t l → Before t s))

-- of another wheelbase than each of them, and so all of a list
abbrev pub Apart : Setting → List Setting → Type 0
Apart s l = (t : Setting) → Among t l → s.wheelbase ≡ t.wheelbase → ⊥

abbrev pub Distinct : List Setting → Type 0
Distinct [] = Unit {0}
Distinct (s ∷ l) = Apart s l × Distinct l

-- what is claimed of the list of some settings
pub record BestOfThese (these : List Setting) (answer : Listed) : Type 0 where
  pub from : (s : Setting) → Among s (settings_in answer) → Among s these
  pub three : length (settings_in answer) ≤ 3
  pub ordered : InOrder (settings_in answer)
  -- nothing better is left out
  pub all : (s : Setting) → Among s these → ListedOrBeaten s (settings_in answer)
  -- 30 exactly where there is none
  pub none : answer ≡ refused 30 → (s : Setting) → Among s these → ⊥
  pub only : ((s : Setting) → Among s these → ⊥) → answer ≡ refused 30

-- the claim
abbrev pub BestThree : Type 0
BestThree = (these : List Setting) → Distinct these → BestOfThese these (listed_of (ranked these))
