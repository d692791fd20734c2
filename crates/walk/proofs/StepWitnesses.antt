-- What starting, advancing and the turns of units ask can be met: the shortest and the longest units, in line, take a step of the shortest wheelbase. Assumes nothing.
use Prim.Native.Nat.{ℕ}
use mathlib.Core.Path.{◌≡◌, refl}
use mathlib.Core.Bool.{true, false}
use mathlib.Core.List.{[], ◌∷◌}
use native.Mathlib.Omega.{arith}
use lib.ListN.{get_or}
use lib.IntN.{pos, ◌*ℤ◌}
use Rattle.plane.specs.declared.Vec2.{Vec2}
use Rattle.plane.specs.Length.{has_length, heading_length, Near}
use Rattle.plane.proofs.Lengths.{near_of}
use Rattle.job.specs.declared.Unit.{Unit as VehicleUnit}
use Rattle.job.specs.Empty.{empty_unit}
use Rattle.job.specs.Faults.{fault_of, units_fault, vehicle_fault}
use Rattle.path.specs.Laying.{PathRuns, path_runs}
use Rattle.walk.specs.declared.Walk.{Walk}
use Rattle.walk.specs.Drawn.{view, station_at}
use Rattle.walk.specs.Tests.{station_sound, path_sound, vehicle_sound, vector_sound, vectors_sound, record_sound, at_last}
use Rattle.walk.specs.Units.{none, behind}
use Rattle.walk.specs.Inner.{UnitDrawn, Placed, HitchReady, FoldReady, TurnReady, UnitsReady}
use Rattle.walk.specs.Moving.{StartReady, AdvanceReady}
use Rattle.walk.proofs.ReadyLaws.{start_ready, advance_ready}
use Rattle.walk.proofs.TestWitnesses.{four_units, vehicle_met}

abbrev north : ℕ → Vec2
north y = record { x = pos 0; y = pos y }

abbrev pub two_stations : PathRuns
two_stations = path_runs (pos 0 ∷ pos 0 ∷ []) (pos 149995000 ∷ pos 150000000 ∷ []) (pos 0 ∷ pos 0 ∷ []) (pos 1000000 ∷ pos 1000000 ∷ [])

abbrev pub in_line : Walk
in_line = record { vehicle = four_units; station = 0; d = north 5000 ∷ north 200000 ∷ north 5000 ∷ north 200000 ∷ [] }

pub path_passes : path_sound 2 two_stations ≡ true
unfolding path_sound station_sound has_length
path_passes = refl

pub record_passes : record_sound 2 (view in_line) ≡ true
unfolding record_sound vehicle_sound vehicle_fault units_fault fault_of vector_sound vectors_sound has_length
record_passes = refl

pub one_more_station : at_last 2 (view in_line) ≡ false
unfolding at_last
one_more_station = refl

heading_near : Near (north 1000000) heading_length (pos 2 *ℤ heading_length)
unfolding has_length
heading_near = near_of (north 1000000) heading_length refl

start_met : StartReady four_units (north 1000000)
start_met = start_ready four_units refl vehicle_met.sound (north 1000000) heading_near

advance_met : AdvanceReady in_line (station_at two_stations 0).position (station_at two_stations 1).position
advance_met = advance_ready 2 two_stations in_line refl refl (omega arith) path_passes record_passes one_more_station

units_met : UnitsReady four_units in_line.d (station_at two_stations 0).position (station_at two_stations 1).position
units_met = advance_met.units

abbrev unit_at : ℕ → VehicleUnit
unit_at i = get_or four_units.units i empty_unit

first : UnitDrawn (unit_at 0) (north 5000)
first = units_met.rig.units 0 (omega arith)

second : UnitDrawn (unit_at 1) (north 200000)
second = units_met.rig.units 1 (omega arith)

front : Placed (station_at two_stations 0).position
front = record { x = record { size = omega arith }; y = record { size = omega arith } }

next_front : Placed (station_at two_stations 1).position
next_front = record { x = record { size = omega arith }; y = record { size = omega arith } }

hitch_met : HitchReady (unit_at 0) (station_at two_stations 0).position (north 5000)
hitch_met = record { unit = first; place = front }

fold_met : FoldReady (unit_at 0) (north 5000) (unit_at 1) (north 200000)
fold_met = record { lead = first; unit = second }

turn_met : TurnReady (behind (unit_at 0) (north 5000)) (unit_at 1) (north 200000) (station_at two_stations 0).position (station_at two_stations 0).position
turn_met = record { unit = second; lead = first; from = front; to = front }

first_turn_met : TurnReady none (unit_at 0) (north 5000) (station_at two_stations 0).position (station_at two_stations 1).position
first_turn_met = record { unit = first; lead = tt; from = front; to = next_front }
