-- Each requirement of this crate can be met, at the ends of its ranges too.
use mathlib.Core.Path.{refl}
use lib.IntN.{ℤ, pos, negsuc}
use lib.Signed.{le_z_yes}
use lib.Dec.{lit≤}
use Rattle.exact.proofs.Witnesses.{divisor_met}
use Rattle.plane.specs.declared.Vec2.{Vec2}
use Rattle.unit.specs.Turn.{Wheelbase, Placeable, Turnable, UnitSized, Mirrorable}
use Rattle.unit.specs.Coupling.{Hitched, Coupled}
use Rattle.unit.specs.Products.{LongProduct, SizeOfProduct, LongFactors, ShortVector, Dotted, Imaged}
use Rattle.unit.proofs.UnitSizes.{turnable_mirrorable}

abbrev vec : ℤ → ℤ → Vec2
vec a b = record { x = a; y = b }

shortest_met : Wheelbase (pos 5000)
shortest_met = record { least = le_z_yes tt; most = le_z_yes tt }

longest_met : Wheelbase (pos 200000)
longest_met = record { least = le_z_yes tt; most = le_z_yes tt }

placeable_met : Placeable (vec (pos 600001) (negsuc 799999)) (pos 5000)
placeable_met = record { wheelbase = shortest_met; heading = record { low = le_z_yes tt; high = le_z_yes tt } }

-- the front point moves by the whole wheelbase, backward
turnable_met : Turnable (vec (pos 0) (pos 200000)) (vec (pos 0) (negsuc 199999)) (pos 200000)
turnable_met = record { wheelbase = longest_met; near = record { low = le_z_yes tt; high = le_z_yes tt }; move = le_z_yes tt }

mirrorable_met : Mirrorable (vec (pos 0) (pos 200000)) (vec (pos 0) (negsuc 199999))
mirrorable_met = turnable_mirrorable _ _ _ turnable_met

sized_met : UnitSized (vec (pos 200000) (negsuc 199999))
sized_met = record { x = record { size = lit≤ tt }; y = record { size = lit≤ tt } }

hitched_met : Hitched (vec (pos 200000) (negsuc 199999)) (negsuc 199999) (pos 1)
hitched_met = record { vector = sized_met; hitch = record { size = lit≤ tt }; wheelbase = divisor_met }

coupled_met : Coupled (vec (pos 200000) (negsuc 199999)) (vec (pos 200000) (negsuc 199999)) (negsuc 999) (pos 200000) (pos 200000)
coupled_met =
    record {
      ahead = sized_met;
      behind = sized_met;
      fold_limit = record { size = lit≤ tt };
      wheelbase_ahead = record { size = lit≤ tt };
      wheelbase_behind = record { size = lit≤ tt };
    }

-- the products of the mirror image: the longest, and the largest with a sign
long_product_met : LongProduct 4294967295 4294967296
long_product_met = record { fits = lit≤ tt }

size_of_product_met : SizeOfProduct 9223372036854775807 (negsuc 0) (pos 9223372036854775807)
size_of_product_met = record { size = refl; fits = lit≤ tt }

long_factors_met : LongFactors (negsuc 599999) (pos 1440000000000)
long_factors_met = record { first = record { size = lit≤ tt }; second = record { size = lit≤ tt } }

short_vector_met : ShortVector (vec (pos 600000) (negsuc 599999))
short_vector_met = record { x = record { size = lit≤ tt }; y = record { size = lit≤ tt } }

dotted_met : Dotted (vec (pos 600000) (negsuc 599999)) (vec (pos 600000) (negsuc 599999))
dotted_met = record { first = short_vector_met; second = short_vector_met }

imaged_met : Imaged (negsuc 599999) (pos 1440000000000) (negsuc 599999) (pos 1440000000000)
imaged_met = record { first = long_factors_met; second = long_factors_met }
