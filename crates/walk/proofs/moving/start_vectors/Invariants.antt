-- `walk::moving::start_vectors` meets its contract: the vectors placed, and those of the rest, are the whole.
use mathlib.Core.Path.{◌≡◌}
use lib.ListN.{take, drop, replicate}
use lib.Seq.{sets}
use Rattle.walk.specs.Rig.{zero_vector}
use Rattle.walk.proofs.MovingLaws.{placed_from}
use Rattle.walk.proofs.moving.start_vectors.Given as goal

abbrev pub invariant-loop-i : goal.invariant-loop-i
invariant-loop-i l =
    let us = take l.fn.v.count l.fn.v.units in
    sets l.d l.i (placed_from l.g (drop l.i us)) ≡ sets (replicate 4 zero_vector) 0 (placed_from l.g us)
