-- `points::unit_places` meets its contract: the units left, from the front point reached, over the places filled in, are the whole rig,
-- and that front point lies within 400,000 a unit of the first.
use Prim.Native.Nat.{◌+◌, ◌*◌}
use mathlib.Core.Path.{◌≡◌}
use lib.ListN.{take, drop}
use lib.Seq.{sets}
use Rattle.points.specs.Ends.{unit_places, no_places, places_of}
use Rattle.points.specs.Requires.{PlaceSized}
use Rattle.points.proofs.unit_places.Given as goal

abbrev pub invariant-loop-i : goal.invariant-loop-i
invariant-loop-i l = record {
  near : PlaceSized (150000000 + 400000 * l.i) l.here;
  left : sets l.places l.i (unit_places (drop l.i (take l.fn.v.count l.fn.v.units)) (drop l.i l.d) l.here) ≡ sets no_places 0 (places_of l.fn.v l.d l.fn.front);
}
