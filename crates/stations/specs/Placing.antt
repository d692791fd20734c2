-- Placing a walk (01, "Stations and the widest place", "Why a walk is turned down": "Placement tests 21, 26, 27").
use Rattle.std.specs.Prelude.{ℕ, zero, suc, ◌≡◌, Result, Ok, Err}
use Rattle.refusal.specs.Numbers.{number_of}
use Rattle.refusal.specs.declared.Fault.{Fault}
use Rattle.number.specs.Read.{pick}
use Rattle.plane.specs.declared.Vec2.{Vec2}
use Rattle.job.specs.declared.Vehicle.{Vehicle}
use Rattle.path.specs.Laying.{PathRuns}
use Rattle.walk.specs.declared.Walk.{Walk}
use Rattle.walk.specs.Drawn.{view, Call, station_at}
use Rattle.walk.specs.Tests.{lent, path_sound, vehicle_sound}
use Rattle.walk.specs.Rig.{drawn_start}
use Rattle.reaches.specs.Cells.{Reaches, lengths_of, cleared}

-- what a call lends: the stations asked for, the path's four runs and the lengths of the other three
abbrev pub call_of : ℕ → PathRuns → Reaches → Call
call_of asked path r = record { asked = asked; path = path; reaches = lengths_of r }

-- what placing answers: that the vehicle is placed, or a refusal's number
pub data PlaceAnswer : Type 0 where
  placed : PlaceAnswer
  refused : ℕ → PlaceAnswer

-- the same, of the program's answer
abbrev pub as_placed : Result (Unit {0}) Fault → PlaceAnswer
as_placed (Ok u) = placed
as_placed (Err f) = refused (number_of f)

-- what placing answers, and the record that it leaves
pub record Placing : Type 0 where
  pub answer : PlaceAnswer
  pub walk : Walk

-- the refusal, 0 for none
unfoldable pub place_refusal : Vehicle → Call → ℕ
place_refusal v c =
    pick (lent c)
    (pick (path_sound c.asked c.path)
    (pick (vehicle_sound v) 0 27)
    26)
    21

abbrev pub place_answer : ℕ → PlaceAnswer
place_answer zero = placed
place_answer (suc n) = refused (suc n)

-- one thing where nothing is refused, another where something is
abbrev pub unless_refused : {A : Type 0} → ℕ → A → A → A
unless_refused zero a b = a
unless_refused (suc n) a b = b

-- the heading at station 0
abbrev pub start_heading : Call → Vec2
start_heading c = (station_at c.path 0).heading

-- "Placement clears every station of the path and crosses nothing"; refused, it hands back the record it was handed and leaves every run
pub record PlaceEnsures (v : Vehicle) (w : Walk) (c : Call) (before : Reaches) (r : Placing) (after : Reaches) : Type 0 where
  pub answered : r.answer ≡ place_answer (place_refusal v c)
  pub placed : view r.walk ≡ unless_refused (place_refusal v c) (drawn_start v (start_heading c)) (view w)
  pub unchanged : (place_refusal v c ≡ 0 → ⊥) → r.walk ≡ w
  pub runs : after ≡ unless_refused (place_refusal v c) (cleared c.asked before) before
