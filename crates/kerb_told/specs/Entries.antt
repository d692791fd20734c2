-- What a report and a reading come to for programs in C and Rust: a number, and the entries at the start of a lent run. A refusal writes none.
use Rattle.std.specs.Prelude.{[], ◌∷◌, pos}
use Rattle.answer_run.specs.Answers.{Told, told, at_byte, at_unit}
use Rattle.kerb_reader.specs.Answers.{KerbRead}
use Rattle.kerb_reader.specs.Answers as R
use Rattle.kerbed.specs.Answers.{Kerbed}
use Rattle.kerbed.specs.Answers as K

-- 1 with the step and the point of a touch, zeros without one
abbrev pub touch_told : Kerbed → Told
touch_told K.nothing = told 0 (pos 0 ∷ pos 0 ∷ pos 0 ∷ [])
touch_told (K.touch step point) = told 0 (pos 1 ∷ pos step ∷ pos point ∷ [])
touch_told (K.stopped n u k) = told (at_unit n u k) []
touch_told (K.refused n p) = told (at_byte n p) []

-- how many vertices stand in the two runs
abbrev pub ticks_told : KerbRead → Told
ticks_told (R.vertices n) = told 0 (pos n ∷ [])
ticks_told (R.refused_at n p) = told (at_byte n p) []
ticks_told (R.refused n) = told n []
