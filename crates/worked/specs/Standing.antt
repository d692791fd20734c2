-- A rig of two units that stands still, to ask the drawn rig about a fold as it is.
use Rattle.std.specs.Prelude.{◌≡◌, [], ◌∷◌, ℤ, pos}
use Rattle.plane.specs.declared.Vec2.{Vec2}
use Rattle.job.specs.declared.Form.TheVariants.{Short}
use Rattle.job.specs.declared.Unit.{Unit as VehicleUnit}
use Rattle.job.specs.declared.Vehicle.{Vehicle}
use Rattle.job.specs.Empty.{empty_body, empty_unit}
use Rattle.path.specs.Laying.{path_runs}
use Rattle.unit.specs.Turn.{turned_by}
use Rattle.walk.specs.Drawn.{Drawn, Call, Outcome}
use Rattle.walk.specs.Rig.{zero_vector, draw_step}

-- a unit of wheelbase 50,000 with its hitch at the rear axle
abbrev pub unit_of : ℤ → VehicleUnit
unit_of limit = record { wheelbase = 50000; hitch = pos 0; fold = limit; body = empty_body }

abbrev pub vehicle_of : ℤ → Vehicle
vehicle_of limit = record {
  form = Short;
  count = 2;
  units = unit_of (pos 0) ∷ unit_of limit ∷ empty_unit ∷ empty_unit ∷ [];
  overhang = 0;
  front_half_width = 1000;
  rear_half_width = 1000;
}

-- the second unit has the fold limit and the vector d, the unit ahead of it the vector a
abbrev pub rig_of : Vec2 → Vec2 → ℤ → Drawn
rig_of a d limit = record { vehicle = vehicle_of limit; station = 0; vectors = a ∷ d ∷ zero_vector ∷ zero_vector ∷ [] }

-- a step from one station to another at the same place
abbrev pub standing : Call
standing = record {
  asked = 2;
  path = path_runs (pos 0 ∷ pos 0 ∷ []) (pos 0 ∷ pos 0 ∷ []) (pos 0 ∷ pos 0 ∷ []) (pos 1000000 ∷ pos 1000000 ∷ []);
  reaches = record { left = 2; right = 2; marks = 2 };
}

-- no front point moves, so both units turn to the vectors they have: the fold limit is tested on these, and the drawn rig's answer is told
pub record FoldAnswer (a d : Vec2) (limit : ℤ) (answer : Outcome) : Type 0 where
  pub ahead : turned_by a zero_vector (pos 50000) ≡ a
  pub behind : turned_by d zero_vector (pos 50000) ≡ d
  pub answered : (draw_step (rig_of a d limit) standing).answer ≡ answer
