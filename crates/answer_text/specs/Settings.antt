-- What the program settings prints (N1): "List wheelbase and widest width of the best three, or fewer if fewer". Every line ends in a line feed.
use Rattle.std.specs.Prelude.{ℕ, List, ◌++◌}
use Rattle.text.specs.Ascii.{ascii}
use Rattle.ranking.specs.declared.Setting.{Setting}
use Rattle.ranking.specs.Ranking.{Listed}
use Rattle.ranking.specs.Ranking as L
use Rattle.offered.specs.Answers.{Offered}
use Rattle.offered.specs.Answers as O
use Rattle.answer_text.specs.Printed.{after, signed_after, refused_line}

-- setting 62000 31240: wheelbase, width
abbrev pub setting_line : Setting → List ℕ
setting_line s = after "setting " s.wheelbase ++ signed_after " " s.width ++ ascii "\n"

-- refused 29
abbrev pub number_line : ℕ → List ℕ
number_line number = after "refused " number ++ ascii "\n"

-- best first, as they stand
abbrev pub listed_lines : Listed → List ℕ
listed_lines (L.one a) = setting_line a
listed_lines (L.two a b) = setting_line a ++ setting_line b
listed_lines (L.three a b c) = setting_line a ++ setting_line b ++ setting_line c
listed_lines (L.refused number) = number_line number

-- the list or its refusal, or the record's own refusal with its byte, as `sweep` prints it
unfoldable pub printed_settings : Offered → List ℕ
printed_settings (O.listed l) = listed_lines l
printed_settings (O.refused number byte) = refused_line number byte
