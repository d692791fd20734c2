-- What the functions below the entries ask can be met: a run with no entry to spare, the greatest byte, unit and step.
use native.Mathlib.Omega.{arith}
use Rattle.answer_run.specs.Inner.{Room, ByteFits, UnitFits}

pub room_met : Room 0 8 8
room_met = record { room = omega arith }

pub byte_met : ByteFits 1024
byte_met = record { byte = omega arith }

pub unit_met : UnitFits 4 2000
unit_met = record { unit = omega arith; step = omega arith }
