-- The drawn rig's start and its step (01, "The two rigs of demand 3").
use Rattle.std.specs.Prelude.{ℕ, ◌+◌, List, map, replicate, pos}
use Rattle.std.proofs.lemmas.List.Edits.{sets}
use Rattle.number.specs.Read.{pick}
use Rattle.plane.specs.declared.Vec2.{Vec2}
use Rattle.job.specs.declared.Unit.{Unit as VehicleUnit}
use Rattle.job.specs.declared.Vehicle.{Vehicle}
use Rattle.unit.specs.Turn.{placed_by}
use Rattle.walk.specs.Drawn.{Drawn, Call, station_at, Outcome, made, refused, refused_at}
use Rattle.walk.specs.Tests.{lent, path_sound, record_sound, at_last, units_in_use}
use Rattle.walk.specs.Units.{wheelbase_of, none, Turning, turned, stopped, turn_units}

abbrev pub zero_vector : Vec2
zero_vector = record { x = pos 0; y = pos 0 }

-- "It begins at k = 0 with each d nearest L × g / N, g being the heading at station 0 of the placement's path, and unused vectors zero"
unfoldable pub start_vectors : Vehicle → Vec2 → List Vec2
start_vectors v g = sets (replicate 4 zero_vector) 0 (map (λ (u : VehicleUnit). placed_by g (wheelbase_of u)) (units_in_use v))

abbrev pub drawn_start : Vehicle → Vec2 → Drawn
drawn_start v g = record { vehicle = v; station = 0; vectors = start_vectors v g }

-- what a step call answers, and the state it leaves
pub record Stepped : Type 0 where
  pub answer : Outcome
  pub state : Drawn

-- "unit 1's front point goes from station k to k + 1 of that call's path"; "then k grows by 1"
abbrev pub turning_of : Drawn → Call → Turning
turning_of s c =
    turn_units 1 none (units_in_use s.vehicle) s.vectors
    (station_at c.path s.station).position (station_at c.path (s.station + 1)).position

abbrev pub after_turning : Drawn → Turning → Stepped
after_turning s (turned ds) = record { answer = made; state = record { vehicle = s.vehicle; station = s.station + 1; vectors = ds } }
after_turning s (stopped n u) = record { answer = refused_at n u; state = s }

-- "Refused, it leaves the state and answers the number"
abbrev pub turned_down : Drawn → ℕ → Stepped
turned_down s n = record { answer = refused n; state = s }

-- "tested in the order 21, 26, 27, 25, then 22 and 23 unit by unit, with this state as the record"
unfoldable pub draw_step : Drawn → Call → Stepped
draw_step s c =
    pick (lent c)
    (pick (path_sound c.asked c.path)
    (pick (record_sound c.asked s)
    (pick (at_last c.asked s) (turned_down s 25) (after_turning s (turning_of s c)))
    (turned_down s 27))
    (turned_down s 26))
    (turned_down s 21)
