-- Each requirement of this crate can be met, at the ends of its ranges too.
use mathlib.Core.Path.{refl}
use lib.IntN.{ℤ, pos, negsuc}
use lib.Signed.{le_z_yes}
use lib.Dec.{lit<, lit≤}
use Rattle.exact.proofs.Witnesses.{divisor_met}
use Rattle.plane.specs.declared.Vec2.{Vec2}
use Rattle.plane.specs.Vector.{Moderate, BothModerate}
use Rattle.plane.specs.Length.{Nominal}
use Rattle.plane.specs.Settle.{Settleable}
use Rattle.plane.specs.Drawn.{Drawable, Turned}
use Rattle.plane.specs.Run.{Entry, Stored}
use Rattle.plane.proofs.Keeping.{turned_drawable}

abbrev vec : ℤ → ℤ → Vec2
vec a b = record { x = a; y = b }

moderate_met : Moderate (vec (pos 2000000000) (negsuc 1999999999))
moderate_met = record { x = record { size = lit≤ tt }; y = record { size = lit≤ tt } }

both_moderate_met : BothModerate (vec (pos 2000000000) (negsuc 1999999999)) (vec (pos 2000000000) (negsuc 1999999999))
both_moderate_met = record { first = moderate_met; second = moderate_met }

shortest_met : Nominal (pos 5000)
shortest_met = record { least = le_z_yes tt; most = le_z_yes tt }

longest_met : Nominal (pos 1000000)
longest_met = record { least = le_z_yes tt; most = le_z_yes tt }

settleable_met : Settleable (vec (pos 3001) (pos 4001)) (pos 5000)
settleable_met = record { nominal = shortest_met; near = record { low = le_z_yes tt; high = le_z_yes tt } }

turned_met : Turned (vec (pos 800000) (negsuc 599999)) (pos 1) (vec (pos 0) (pos 1000000)) (pos 1000000)
turned_met = record { divisor = divisor_met; nominal = longest_met; near = record { low = le_z_yes tt; high = le_z_yes tt }; exact = refl }

drawable_met : Drawable (vec (pos 800000) (negsuc 599999)) (pos 1) (pos 1000000)
drawable_met = turned_drawable _ _ _ _ turned_met

entry_met : Entry 0 1
entry_met = record { inside = lit< tt }

stored_met : Stored 0 1 (negsuc 2147483647)
stored_met = record { inside = lit< tt; least = le_z_yes tt; most = le_z_yes tt }
