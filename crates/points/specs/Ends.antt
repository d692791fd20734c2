-- Where the units of a rig stand, and the ends of a unit that points are measured from (01, "Stations and the widest place": F and R of a unit).
use Rattle.std.specs.Prelude.{List, [], ◌∷◌, replicate, pos}
use Rattle.plane.specs.declared.Vec2.{Vec2}
use Rattle.job.specs.declared.Unit.{Unit as VehicleUnit}
use Rattle.job.specs.declared.Vehicle.{Vehicle}
use Rattle.walk.specs.Tests.{units_in_use}
use Rattle.walk.specs.Units.{wheelbase_of, rear_axle, hitch_at}
use Rattle.walk.specs.Rig.{zero_vector}
use Rattle.points.specs.declared.UnitPlace.{UnitPlace}
use Rattle.points.specs.declared.End.{End}

-- a unit with its front point F: the rear axle R lies its vector d behind F
abbrev pub place_of : VehicleUnit → Vec2 → Vec2 → UnitPlace
place_of u d front = record { front = front; rear = rear_axle front d; d = d; wheelbase = wheelbase_of u }

-- unit by unit: F of the first is given, F of a later one is the hitch ahead
unfoldable pub unit_places : List VehicleUnit → List Vec2 → Vec2 → List UnitPlace
unit_places [] ds front = []
unit_places (u ∷ us) [] front = []
unit_places (u ∷ us) (d ∷ ds) front = place_of u d front ∷ unit_places us ds (hitch_at u front d)

-- the same of a vehicle: its units in use
abbrev pub places_of : Vehicle → List Vec2 → Vec2 → List UnitPlace
places_of v ds front = unit_places (units_in_use v) ds front

-- a unit that is not in use stands nowhere
abbrev pub no_place : UnitPlace
no_place = record { front = zero_vector; rear = zero_vector; d = zero_vector; wheelbase = pos 0 }

abbrev pub no_places : List UnitPlace
no_places = replicate 4 no_place

-- an end is F or R of a unit, with the unit's vector and wheelbase
abbrev pub front_end : UnitPlace → End
front_end p = record { place = p.front; d = p.d; wheelbase = p.wheelbase }

abbrev pub rear_end : UnitPlace → End
rear_end p = record { place = p.rear; d = p.d; wheelbase = p.wheelbase }
