-- `walk::units::turn_units` meets its contract: what is left to turn, after what is turned, is the whole.
use lib.ListN.{take}
use Rattle.walk.specs.Units.{none, turn_units}
use Rattle.walk.specs.Inner.{ahead_of}
use Rattle.walk.proofs.UnitsLaws.{UnitsLeft}
use Rattle.walk.proofs.units.turn_units.Given as goal

abbrev pub invariant-loop-i : goal.invariant-loop-i
invariant-loop-i l =
    UnitsLeft l.v l.d (turn_units 1 none (take l.v.count l.v.units) l.d l.fn.old l.fn.new) l.i l.turned l.from l.to (ahead_of l.ahead)
