-- The hitch between two units and the fold limit (01, "Drawing the units").
use Rattle.std.specs.Prelude.{◌≡◌, Bool, ℤ, pos, neg_ℤ, ◌*ℤ◌}
use Rattle.std.specs.Int.Signed.{le_z}
use Rattle.exact.specs.Size.{Within}
use Rattle.exact.specs.Nearest.{Divisor}
use Rattle.plane.specs.declared.Vec2.{Vec2}
use Rattle.plane.specs.Vector.{dot, times, nearest_v}
use Rattle.plane.specs.Wheelbase.{wheelbase_most}
use Rattle.unit.specs.Turn.{UnitSized}

-- where the hitch lies from the rear axle, h ahead of it: nearest h × d / L
unfoldable pub hitch_offset : Vec2 → ℤ → ℤ → Vec2
hitch_offset d h l = nearest_v (times d h) l

-- a unit d behind the unit a may stand so: 1,000 × (a · d) ≥ fold limit × both wheelbases
unfoldable pub fold_allowed : Vec2 → Vec2 → ℤ → ℤ → ℤ → Bool
fold_allowed a d limit la ld = le_z (limit *ℤ la *ℤ ld) (pos 1000 *ℤ dot a d)

-- as far the other way
abbrev pub opposite : Vec2 → Vec2
opposite v = record { x = neg_ℤ v.x; y = neg_ℤ v.y }

-- what a hitch asks
pub record Hitched (d : Vec2) (h l : ℤ) : Type 0 where
  pub vector : UnitSized d
  pub hitch : Within wheelbase_most h
  pub wheelbase : Divisor l

-- what the fold test asks
pub record Coupled (a d : Vec2) (limit la ld : ℤ) : Type 0 where
  pub ahead : UnitSized a
  pub behind : UnitSized d
  pub fold_limit : Within 1000 limit
  pub wheelbase_ahead : Within wheelbase_most la
  pub wheelbase_behind : Within wheelbase_most ld

-- the claim of the hitch, which pins its sign: the whole wheelbase ahead of the rear axle lies the front point, at no distance the axle,
-- and a hitch behind the axle lies just opposite the one as far ahead of it
pub record HitchRule : Type 0 where
  pub front : (d : Vec2) (l : ℤ) → Divisor l → hitch_offset d l l ≡ d
  pub axle : (d : Vec2) (l : ℤ) → Divisor l → hitch_offset d (pos 0) l ≡ record { x = pos 0; y = pos 0 }
  pub behind : (d : Vec2) (h l : ℤ) → Divisor l → hitch_offset d (neg_ℤ h) l ≡ opposite (hitch_offset d h l)
