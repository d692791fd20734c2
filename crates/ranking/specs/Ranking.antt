-- Which settings are listed, and in which order (02, N1): "the best three, or fewer if fewer", "least widest width first, the shorter wheelbase first among equals".
use Rattle.std.specs.Prelude.{ℕ, Option, None, Some, Result, Ok, Err, Bool, ◌&&◌, ◌||◌, List, [], ◌∷◌, ltb}
use Rattle.std.specs.Int.Signed.{lt_z, le_z}
use Rattle.refusal.specs.Numbers.{number_of}
use Rattle.refusal.specs.declared.Fault.{Fault}
use Rattle.number.specs.Read.{pick}
use Rattle.ranking.specs.declared.Setting.{Setting}
use Rattle.ranking.specs.declared.Shortlist.{Shortlist}
use Rattle.ranking.specs.declared.Shortlist.TheVariants as S

-- "least widest width first, the shorter wheelbase first among equals"
abbrev pub is_before : Setting → Setting → Bool
is_before s t = lt_z s.width t.width || (le_z s.width t.width && ltb s.wheelbase t.wheelbase)

-- a setting put into its place among others that stand in order
unfoldable pub insert : Setting → List Setting → List Setting
insert s [] = s ∷ []
insert s (t ∷ ts) = pick (is_before s t) (s ∷ t ∷ ts) (t ∷ insert s ts)

unfoldable pub ranked : List Setting → List Setting
ranked [] = []
ranked (s ∷ ss) = insert s (ranked ss)

-- the settings listed, best first; or a refusal's number
pub data Listed : Type 0 where
  one : Setting → Listed
  two : Setting → Setting → Listed
  three : Setting → Setting → Setting → Listed
  refused : ℕ → Listed

-- the same, of the program's answer
abbrev pub as_list : Shortlist → Listed
as_list (S.One a) = one a
as_list (S.Two a b) = two a b
as_list (S.Three a b c) = three a b c

abbrev pub as_listed : Result Shortlist Fault → Listed
as_listed (Ok l) = as_list l
as_listed (Err f) = refused (number_of f)

-- and of the list so far, 30 for none
abbrev pub so_far : Option Shortlist → Listed
so_far None = refused 30
so_far (Some l) = as_list l

-- the first three, or fewer if fewer; "with 30 exactly when there is none to list"
abbrev pub listed_of : List Setting → Listed
listed_of [] = refused 30
listed_of (a ∷ []) = one a
listed_of (a ∷ b ∷ []) = two a b
listed_of (a ∷ b ∷ c ∷ rest) = three a b c

-- the settings that an answer lists
abbrev pub settings_in : Listed → List Setting
settings_in (one a) = a ∷ []
settings_in (two a b) = a ∷ b ∷ []
settings_in (three a b c) = a ∷ b ∷ c ∷ []
settings_in (refused n) = []

-- the list with one more setting
abbrev pub entered : Setting → Listed → Listed
entered s l = listed_of (insert s (settings_in l))
