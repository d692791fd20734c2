-- The radius field of an element: "Radius 0 is a straight" (01, "The job record"), "a right turn has a positive radius" (01, "Ticks, axes and rounding").
use Rattle.std.specs.Prelude.{zero, suc, Bool, ℤ, pos, negsuc, neg_ℤ}
use Rattle.job.specs.Allowed.{curve_allowed}
use Rattle.job.specs.declared.Side.TheVariants.{Left, Right}
use Rattle.job.specs.declared.Curve.{Curve}
use Rattle.job.specs.declared.Curve.TheVariants.{Straight, Arc}

abbrev pub curve_of : ℤ → Curve
curve_of (pos zero) = Straight
curve_of (pos (suc r)) = Arc Right (suc r)
curve_of (negsuc r) = Arc Left (suc r)

abbrev pub radius_of : Curve → ℤ
radius_of Straight = pos 0
radius_of (Arc Right r) = pos r
radius_of (Arc Left r) = neg_ℤ (pos r)

abbrev pub radius_allowed : ℤ → Bool
radius_allowed z = curve_allowed (curve_of z)
