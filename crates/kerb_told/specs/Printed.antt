-- What the program kerb prints (02, N4). Every line ends in a line feed.
use Rattle.std.specs.Prelude.{ℕ, List, ◌++◌}
use Rattle.text.specs.Ascii.{ascii}
use Rattle.answer_text.specs.Printed.{after, refused_line, stopped_line}
use Rattle.kerbed.specs.Answers.{Kerbed}
use Rattle.kerbed.specs.Answers as K

-- the first step that touches, and its lowest point: touch 17 4
abbrev pub touch_line : ℕ → ℕ → List ℕ
touch_line step point = after "touch " step ++ after " " point ++ ascii "\n"

-- without one
abbrev pub none_line : List ℕ
none_line = ascii "touch none\n"

-- refusals in the forms of 01, "Rigs to try"
unfoldable pub printed_kerb : Kerbed → List ℕ
printed_kerb K.nothing = none_line
printed_kerb (K.touch step point) = touch_line step point
printed_kerb (K.stopped number unit step) = stopped_line number unit step
printed_kerb (K.refused number byte) = refused_line number byte
