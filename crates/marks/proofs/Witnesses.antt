-- What the functions of this crate require can be met. Assumes nothing.
use Prim.Native.Nat.{◌-◌}
use native.Mathlib.Omega.{arith}
use Rattle.marks.specs.Requires.{HasPlace, HavePlaces, HasRoom, Counted}
use Rattle.marks.specs.Count.{point_capacity}
use Rattle.marks.specs.Marks.{mark_width}

has_place : HasPlace 31
has_place = record { place = omega arith }

have_places : HavePlaces mark_width
have_places = record { places = omega arith }

has_room : HasRoom (point_capacity - 1)
has_room = record { place = omega arith }

counted : Counted point_capacity
counted = record { most = omega arith }
