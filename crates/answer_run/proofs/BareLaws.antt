-- An answer that is not 0 has no entries.
use mathlib.Core.Path.{◌≡◌, refl}
use mathlib.Core.List.{[]}
use Rattle.refusal.specs.Numbers.{Answer, answered, refused}
use Rattle.plane.specs.declared.Vec2.{Vec2}
use Rattle.heading.specs.declared.Advance.{Advance}
use Rattle.answer_run.specs.Turns.{path_told, unit_told}

pub path_bare : (t : Answer Advance) → ((path_told t).number ≡ 0 → ⊥) → (path_told t).entries ≡ []
path_bare (answered a) h = absurd (h refl)
path_bare (refused n) h = refl

pub unit_bare : (t : Answer Vec2) → ((unit_told t).number ≡ 0 → ⊥) → (unit_told t).entries ≡ []
unit_bare (answered d) h = absurd (h refl)
unit_bare (refused n) h = refl
