-- A walk from where it stands to the end of its path: step calls, each handed the runs that the one before left (01, "Drawing the units", "Stations and the widest place").
use Rattle.std.specs.Prelude.{ℕ, zero, suc, ◌+◌, ◌-◌, ◌≡◌, true}
use Rattle.path.specs.Laying.{PathRuns}
use Rattle.walk.specs.Moving.{Advanced}
use Rattle.walk.specs.Drawn.{Drawn, view, Call, Outcome, made}
use Rattle.walk.specs.Tests.{lent, path_sound, record_sound}
use Rattle.walk.specs.Rig.{draw_step}
use Rattle.reaches.specs.Cells.{Reaches}
use Rattle.reaches.specs.Crossing.{crossed}
use Rattle.stations.specs.Placing.{call_of}
use Rattle.stations.specs.Stepping.{points_at, if_made}

-- how a walk went: what its last call answered, and the state and the runs that it left
pub record Course : Type 0 where
  pub answer : Outcome
  pub state : Drawn
  pub runs : Reaches

-- n steps, or fewer where one is refused: that one is the last
unfoldable pub walk_on : ℕ → ℕ → PathRuns → Drawn → Reaches → Course
walk_on zero asked path s r = record { answer = made; state = s; runs = r }
walk_on (suc n) asked path s r =
    let c = call_of asked path r in
    let t = draw_step s c in
    if_made t.answer
    (walk_on n asked path t.state (crossed asked path (points_at s c) (points_at t.state c) r))
    (record { answer = t.answer; state = t.state; runs = r })

-- the steps from the station reached to the last
abbrev pub steps_left : ℕ → Drawn → ℕ
steps_left asked s = asked - (s.station + 1)

abbrev pub walk_to_end : ℕ → PathRuns → Drawn → Reaches → Course
walk_to_end asked path s r = walk_on (steps_left asked s) asked path s r

-- the same, of the program's answer
abbrev pub course_of : Advanced → Reaches → Course
course_of a r = record { answer = a.answer; state = view a.walk; runs = r }

-- what it asks: a call and a record that pass 21, 26 and 27
pub record Going (s : Drawn) (c : Call) : Type 0 where
  pub lent : lent c ≡ true
  pub path : path_sound c.asked c.path ≡ true
  pub rig : record_sound c.asked s ≡ true
