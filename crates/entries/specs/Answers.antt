-- A job's answers as programs in C and Rust get them: a number, and the entries at the start of a lent run. A refusal writes none ("nothing is written", 01, "Why a job is turned down").
use Rattle.std.specs.Prelude.{ℕ, List, [], ◌∷◌, ◌++◌, replicate, ℤ, pos, Option, None, Some}
use Rattle.reaches.specs.declared.Place.{Place}
use Rattle.run.specs.declared.Finish.{Finish}
use Rattle.swept.specs.declared.SweepTold.{SweepTold}
use Rattle.swept.specs.declared.SweepTold.TheVariants as T
use Rattle.swept.specs.Answers.{Swept}
use Rattle.swept.specs.Answers as S
use Rattle.answer_run.specs.Answers.{Told, told, at_byte, at_unit}

abbrev pub zeros : ℕ → List ℤ
zeros n = replicate n (pos 0)

-- 1 and the widest place: station, width, left, right; zeros without one
abbrev pub widest_entries : Option Place → List ℤ
widest_entries None = zeros 5
widest_entries (Some p) = pos 1 ∷ pos p.station ∷ p.width ∷ p.left ∷ p.right ∷ []

-- the steps, the widest place, the last x and y
abbrev pub finish_with : Option Place → Finish → List ℤ
finish_with b f = pos f.steps ∷ (widest_entries b ++ (f.front.x ∷ f.front.y ∷ []))

abbrev pub finish_entries : Finish → List ℤ
finish_entries f = finish_with f.widest f

-- 0 finished; a stopped walk's number with the unit and the step; a refused job's with the byte
abbrev pub sweep_told : Swept → Told
sweep_told (S.finished f) = told 0 (finish_entries f)
sweep_told (S.stopped n u k) = told (at_unit n u k) []
sweep_told (S.refused n p) = told (at_byte n p) []

-- why there is no answer, in one number: a stopped walk's with the unit and the step, a refused job's with the byte
abbrev pub refusal_told : SweepTold → ℕ
refusal_told (T.Stopped n u k) = at_unit n u k
refusal_told (T.Refused n p) = at_byte n p
