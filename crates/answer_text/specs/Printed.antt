-- What the program prints (01, "Rigs to try"). Every line ends in a line feed.
use Rattle.std.specs.Prelude.{ℕ, List, ◌++◌, ℤ, Option, None, Some}
use Prim.Native.String.{String}
use Rattle.text.specs.Ascii.{ascii}
use Rattle.text.specs.Decimal.{decimal, signed_decimal}
use Rattle.plane.specs.declared.Vec2.{Vec2}
use Rattle.reaches.specs.declared.Place.{Place}
use Rattle.run.specs.declared.Finish.{Finish}
use Rattle.swept.specs.Answers.{Swept}
use Rattle.swept.specs.Answers as S

-- a number after the words that stand before it
abbrev pub after : String → ℕ → List ℕ
after words n = ascii words ++ decimal n

abbrev pub signed_after : String → ℤ → List ℕ
signed_after words z = ascii words ++ signed_decimal z

-- steps 13
abbrev pub steps_line : ℕ → List ℕ
steps_line steps = after "steps " steps ++ ascii "\n"

-- widest 3 24000 -12000 12000: station, width, left, right
abbrev pub place_line : Place → List ℕ
place_line p = after "widest " p.station ++ signed_after " " p.width ++ signed_after " " p.left ++ signed_after " " p.right ++ ascii "\n"

-- without a complete station: widest none
abbrev pub widest_line : Option Place → List ℕ
widest_line None = ascii "widest none\n"
widest_line (Some p) = place_line p

-- front 0 65000
abbrev pub front_line : Vec2 → List ℕ
front_line v = signed_after "front " v.x ++ signed_after " " v.y ++ ascii "\n"

abbrev pub finished_lines : Finish → List ℕ
finished_lines f = steps_line f.steps ++ widest_line f.widest ++ front_line f.front

-- a refused job, by number and byte: refused 8 at 20
abbrev pub refused_line : ℕ → ℕ → List ℕ
refused_line number byte = after "refused " number ++ after " at " byte ++ ascii "\n"

-- a refused step: refused 23 unit 2 step 17
abbrev pub stopped_line : ℕ → ℕ → ℕ → List ℕ
stopped_line number unit step = after "refused " number ++ after " unit " unit ++ after " step " step ++ ascii "\n"

unfoldable pub printed : Swept → List ℕ
printed (S.finished f) = finished_lines f
printed (S.stopped number unit step) = stopped_line number unit step
printed (S.refused number byte) = refused_line number byte
