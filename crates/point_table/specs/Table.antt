-- The table of a rig's points (01, "Stations and the widest place"; 02, N3).
use Rattle.std.specs.Prelude.{ℕ, List, [], ◌∷◌, get_or}
use Rattle.job.specs.declared.Side.{Side}
use Rattle.job.specs.declared.Side.TheVariants.{Left, Right}
use Rattle.point_table.specs.declared.Base.{Base}
use Rattle.point_table.specs.declared.Base.TheVariants.{Front, Rear, LastRear}
use Rattle.point_table.specs.declared.Along.{Along}
use Rattle.point_table.specs.declared.Along.TheVariants as A
use Rattle.point_table.specs.declared.Width.{Width}
use Rattle.point_table.specs.declared.Width.TheVariants as W
use Rattle.point_table.specs.declared.Row.{Row}

abbrev pub row : Base → Along → Side → Width → Row
row b a s w = record { base = b; along = a; side = s; width = w }

-- no. 0 to 5, then "numbered from 6, unit by unit, front left, front right, rear left, rear right" (02, N3): base, "along" ahead of it,
-- "side" to the left (−) or the right (+) by a half width; unit 1 of the paper is unit 0 here
abbrev pub point_rows : List Row
point_rows =
    row (Front 0) A.Corner Left W.Corner ∷ row (Front 0) A.Corner Right W.Corner
    ∷ row (Front 0) A.Nothing Left W.FrontHalf ∷ row (Front 0) A.Nothing Right W.FrontHalf
    ∷ row LastRear A.Nothing Left W.RearHalf ∷ row LastRear A.Nothing Right W.RearHalf
    ∷ row (Rear 0) A.Corner Left W.Corner ∷ row (Rear 0) A.Corner Right W.Corner
    ∷ row (Front 1) A.Corner Left W.Corner ∷ row (Front 1) A.Corner Right W.Corner
    ∷ row (Rear 1) A.Corner Left W.Corner ∷ row (Rear 1) A.Corner Right W.Corner
    ∷ row (Front 2) A.Corner Left W.Corner ∷ row (Front 2) A.Corner Right W.Corner
    ∷ row (Rear 2) A.Corner Left W.Corner ∷ row (Rear 2) A.Corner Right W.Corner
    ∷ row (Front 3) A.Corner Left W.Corner ∷ row (Front 3) A.Corner Right W.Corner
    ∷ row (Rear 3) A.Corner Left W.Corner ∷ row (Rear 3) A.Corner Right W.Corner ∷ []

-- the row of point k
abbrev pub row_at : ℕ → Row
row_at k = get_or point_rows k (row (Front 0) A.Corner Left W.Corner)
