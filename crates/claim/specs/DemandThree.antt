-- Demand 3: one claim about any list of step calls after an accepted placement (01, "The two rigs of demand 3").
use Rattle.std.specs.Prelude.{◌≡◌, List, [], ◌∷◌, map}
use Rattle.job.specs.declared.Vehicle.{Vehicle}
use Rattle.walk.specs.declared.Walk.{Walk}
use Rattle.walk.specs.Moving.{Advanced}
use Rattle.walk.specs.Drawn.{Drawn, view, Call, Outcome, made}
use Rattle.walk.specs.Tests.{units_in_use}
use Rattle.walk.specs.Rig.{drawn_start, draw_step}
use Rattle.reaches.specs.Cells.{Reaches}
use Rattle.stations.specs.Placing as P
use Rattle.stations.specs.Placing.{Placing, start_heading, PlaceEnsures}
use Rattle.stations.specs.Stepping.{StepEnsures}
use Rattle.walk.specs.Rigid.{AllOfLength, StepNear}

-- the drawn rig, fed the calls: its answers, and the state after the last
unfoldable pub drawn_answers : Drawn → List Call → List Outcome
drawn_answers s [] = []
drawn_answers s (c ∷ cs) = (draw_step s c).answer ∷ drawn_answers (draw_step s c).state cs

unfoldable pub drawn_end : Drawn → List Call → Drawn
drawn_end s [] = s
drawn_end s (c ∷ cs) = drawn_end (draw_step s c).state cs

-- one call of the program's step: what it was handed, what it answered and what the runs held before and after
pub record Turn : Type 0 where
  pub call : Call
  pub before : Reaches
  pub result : Advanced
  pub after : Reaches

-- calls one after the other, each at the record that the one before left; any runs may be lent to each
unfoldable pub Chain : Walk → List Turn → Type 0
Chain w [] = Unit {0}
Chain w (t ∷ ts) = StepEnsures w t.call t.before t.result t.after × Chain t.result.walk ts

unfoldable pub last_record : Walk → List Turn → Walk
last_record w [] = w
last_record w (t ∷ ts) = last_record t.result.walk ts

-- lengths at the placement and after every call, lines in every step not refused
unfoldable pub Always : Drawn → List Call → Type 0
Always s [] = AllOfLength (units_in_use s.vehicle) s.vectors
Always s (c ∷ cs) =
    AllOfLength (units_in_use s.vehicle) s.vectors
    × ((draw_step s c).answer ≡ made → StepNear s c)
    × Always (draw_step s c).state cs

pub record Walked (start : Drawn) (w : Walk) (ts : List Turn) : Type 0 where
  pub answers : map (λ (t : Turn). t.result.answer) ts ≡ drawn_answers start (map (λ (t : Turn). t.call) ts)
  pub ended : view (last_record w ts) ≡ drawn_end start (map (λ (t : Turn). t.call) ts)
  pub kept : Always start (map (λ (t : Turn). t.call) ts)

-- the claim
abbrev pub DemandThree : Type 0
DemandThree =
    (v : Vehicle) (w : Walk) (c : Call) (before : Reaches) (r : Placing) (after : Reaches)
    → PlaceEnsures v w c before r after → r.answer ≡ P.placed
    → (ts : List Turn) → Chain r.walk ts
    → Walked (drawn_start v (start_heading c)) r.walk ts
