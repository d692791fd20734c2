-- The two turns, "called by itself" each (01, "Why a job is turned down"), as entries of an answer run.
use Rattle.std.specs.Prelude.{List, [], ◌∷◌, ℤ}
use Rattle.refusal.specs.Numbers.{Answer, answered, refused}
use Rattle.plane.specs.declared.Vec2.{Vec2}
use Rattle.heading.specs.declared.Advance.{Advance}
use Rattle.answer_run.specs.Answers.{Told, told}

-- 0 and the entries of what was answered; a refusal writes nothing
abbrev pub told_by : {A : Type 0} → (A → List ℤ) → Answer A → Told
told_by entries (answered a) = told 0 (entries a)
told_by entries (refused n) = told n []

abbrev pub told_of : Answer (List ℤ) → Told
told_of = told_by (λ es. es)

-- the new heading and the move
abbrev pub path_entries : Advance → List ℤ
path_entries a = a.heading.x ∷ a.heading.y ∷ a.shift.x ∷ a.shift.y ∷ []

abbrev pub path_told : Answer Advance → Told
path_told = told_by path_entries

-- the new vector
abbrev pub vector_entries : Vec2 → List ℤ
vector_entries d = d.x ∷ d.y ∷ []

abbrev pub unit_told : Answer Vec2 → Told
unit_told = told_by vector_entries
