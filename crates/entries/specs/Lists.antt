-- A list of settings as entries of an answer run (02, N1, for C and Rust): how many, then wheelbase and width of each, best first, zeros after.
use Rattle.std.specs.Prelude.{List, [], ◌∷◌, ◌++◌, ℤ, pos}
use Rattle.ranking.specs.declared.Setting.{Setting}
use Rattle.ranking.specs.Ranking.{Listed}
use Rattle.ranking.specs.Ranking as L
use Rattle.offered.specs.Answers.{Offered}
use Rattle.offered.specs.Answers as O
use Rattle.answer_run.specs.Answers.{Told, told, at_byte}

-- wheelbase and widest width
abbrev pub setting_entries : Setting → List ℤ
setting_entries s = pos s.wheelbase ∷ s.width ∷ []

-- zeros after the last that is listed
abbrev pub no_setting : Setting
no_setting = record { wheelbase = 0; width = pos 0 }

-- how many are listed, and the three, best first
abbrev pub three_entries : ℤ → Setting → Setting → Setting → List ℤ
three_entries n a b c = n ∷ (setting_entries a ++ (setting_entries b ++ setting_entries c))

-- 0 with the list; a refusal writes nothing
abbrev pub list_told : Listed → Told
list_told (L.one a) = told 0 (three_entries (pos 1) a no_setting no_setting)
list_told (L.two a b) = told 0 (three_entries (pos 2) a b no_setting)
list_told (L.three a b c) = told 0 (three_entries (pos 3) a b c)
list_told (L.refused n) = told n []

-- a refused record's number has the byte beside it
abbrev pub settings_told : Offered → Told
settings_told (O.listed l) = list_told l
settings_told (O.refused n p) = told (at_byte n p) []
