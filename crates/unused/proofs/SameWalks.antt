-- Walks of rigs that agree but for unused entries. Assumes nothing.
use Prim.Native.Nat.{ℕ, zero, suc}
use mathlib.Core.Path.{◌≡◌, refl}
use Rattle.path.specs.Laying.{PathRuns}
use Rattle.walk.specs.Drawn.{Drawn, Outcome, made, refused, refused_at}
use Rattle.walk.specs.Rig.{draw_step}
use Rattle.reaches.specs.Cells.{Reaches}
use Rattle.stations.specs.Placing.{call_of}
use Rattle.stations.specs.Stepping.{if_made}
use Rattle.run.specs.Walking.{Course, walk_on}
use Rattle.unused.specs.Same.{SameRig}
use Rattle.unused.proofs.SameRigs.{stepped}
use Rattle.unused.proofs.SamePoints.{points_same}

-- a walk of both likewise, with the same runs
pub record AlikeCourse (x y : Course) : Type 0 where
  pub answer : x.answer ≡ y.answer
  pub state : SameRig x.state y.state
  pub runs : x.runs ≡ y.runs

chosen : (o : Outcome) {x y x' y' : Course} → AlikeCourse x y → AlikeCourse x' y' → AlikeCourse (if_made o x x') (if_made o y y')
chosen made a b = a
chosen (refused n) a b = b
chosen (refused_at n u) a b = b

pub walked : (n asked : ℕ) (path : PathRuns) (s t : Drawn) (r : Reaches) → SameRig s t → AlikeCourse (walk_on n asked path s r) (walk_on n asked path t r)
unfolding walk_on
walked zero asked path s t r e = record { answer = refl; state = e; runs = refl }
walked (suc n) asked path s t r e =
    let c = call_of asked path r in
    let d = stepped s t e c in
    rw (d.answer, points_same s t e c, points_same (draw_step s c).state (draw_step t c).state d.state c)
    (chosen (draw_step t c).answer (walked n asked path (draw_step s c).state (draw_step t c).state _ d.state) (record { answer = refl; state = d.state; runs = refl }))
