-- A step of a walk (01, "Drawing the units", "Stations and the widest place", "Why a walk is turned down").
use Rattle.std.specs.Prelude.{◌≡◌, List}
use Rattle.plane.specs.declared.Vec2.{Vec2}
use Rattle.walk.specs.declared.Walk.{Walk}
use Rattle.walk.specs.Moving.{Advanced}
use Rattle.walk.specs.Drawn.{Drawn, view, Call, station_at, Outcome, made, refused, refused_at}
use Rattle.walk.specs.Rig.{draw_step}
use Rattle.points.specs.Points.{points_of}
use Rattle.reaches.specs.Cells.{Reaches}
use Rattle.reaches.specs.Crossing.{crossed}

-- the points of the rig, its first front point at the station it has reached
abbrev pub points_at : Drawn → Call → List Vec2
points_at s c = points_of s (station_at c.path s.station).position

abbrev pub if_made : {A : Type 0} → Outcome → A → A → A
if_made made a b = a
if_made (refused n) a b = b
if_made (refused_at n u) a b = b

-- the answer and the state are the drawn rig's; a refused step hands back the record it was handed and leaves every run;
-- a made one enters the crossings of its points, from their old places to their new, at every station of the path
pub record StepEnsures (w : Walk) (c : Call) (before : Reaches) (r : Advanced) (after : Reaches) : Type 0 where
  pub stepped : record { answer = r.answer; state = view r.walk } ≡ draw_step (view w) c
  pub unchanged : (r.answer ≡ made → ⊥) → r.walk ≡ w
  pub runs : after ≡ if_made (draw_step (view w) c).answer (crossed c.asked c.path (points_at (view w) c) (points_at (draw_step (view w) c).state c) before) before
