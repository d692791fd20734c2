-- Each requirement of this crate can be met, at the ends of its ranges too.
use mathlib.Core.Path.{refl}
use lib.IntN.{pos, negsuc, ◌*ℤ◌}
use lib.Signed.{le_z_yes}
use Rattle.plane.specs.declared.Vec2.{Vec2}
use Rattle.plane.specs.Length.{heading_length, Near}
use Rattle.heading.specs.Turn.{Tangent}
use Rattle.heading.specs.PathTurn.{Steerable, Movable}

abbrev north : Vec2
north = record { x = pos 0; y = pos 1000000 }

north_near : Near north heading_length (pos 2 *ℤ heading_length)
north_near = record { low = le_z_yes tt; high = le_z_yes tt }

tangent_met : Tangent north (negsuc 999999) (pos 2000000)
tangent_met = record { heading = north_near; least = le_z_yes tt; most = le_z_yes tt; half = le_z_yes tt }

steerable_met : Steerable north (pos 20000) (negsuc 19999)
steerable_met = record { heading = north_near; least = le_z_yes tt; most = le_z_yes tt; radius = refl }

movable_met : Movable north north (pos 1)
movable_met = record { old = north_near; new = north_near; least = le_z_yes tt; most = le_z_yes tt }
