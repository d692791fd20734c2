-- The bases of points, and the corners of a unit's body (02, N3). Unit 1 of the paper is unit 0 here.
use Rattle.std.specs.Prelude.{ℕ, ◌-◌, Bool, true, false, eqb, get_or, ℤ, pos, neg_ℤ}
use Rattle.number.specs.Read.{pick}
use Rattle.job.specs.declared.Body.{Body}
use Rattle.job.specs.declared.Form.{Form}
use Rattle.job.specs.declared.Form.TheVariants.{Short, Long}
use Rattle.job.specs.declared.Vehicle.{Vehicle}
use Rattle.job.specs.Empty.{empty_unit}
use Rattle.walk.specs.Tests.{units_in_use}
use Rattle.point_table.specs.declared.Base.{Base}
use Rattle.point_table.specs.declared.Base.TheVariants.{Front, Rear, LastRear}
use Rattle.points.specs.declared.corners.Corner.{Corner}

-- the unit that a base belongs to, and whether it is its front point
abbrev pub unit_of : Vehicle → Base → ℕ
unit_of v (Front i) = i
unit_of v (Rear i) = i
unit_of v LastRear = v.count - 1

abbrev pub is_front : Base → Bool
is_front (Front i) = true
is_front (Rear i) = false
is_front LastRear = false

-- "Each unit gets a front overhang, a rear overhang and a half width"; a short job "has overhangs 0 and the rear half width"
abbrev pub body_by : Form → Vehicle → ℕ → Body
body_by Short v i = record { front_overhang = 0; rear_overhang = 0; half_width = v.rear_half_width }
body_by Long v i = (get_or (units_in_use v) i empty_unit).body

unfoldable pub body_of : Vehicle → ℕ → Body
body_of v i = body_by v.form v i

-- a corner lies so far ahead of its base, negative behind, and so far beside it
abbrev pub corner : ℤ → ℕ → Corner
corner along width = record { along = along; width = pos width }

-- "two at the front point plus overhang", of a short job "but the first unit's front keeps its old overhang and width"
abbrev pub front_by : Form → Vehicle → ℕ → Corner
front_by Short v i =
    pick (eqb i 0)
    (corner (pos v.overhang) v.front_half_width)
    (corner (pos (body_of v i).front_overhang) (body_of v i).half_width)
front_by Long v i = corner (pos (body_of v i).front_overhang) (body_of v i).half_width

unfoldable pub front_corner : Vehicle → ℕ → Corner
front_corner v i = front_by v.form v i

-- "two behind the rear axle"
unfoldable pub rear_corner : Vehicle → ℕ → Corner
rear_corner v i = corner (neg_ℤ (pos (body_of v i).rear_overhang)) (body_of v i).half_width

-- the corner of the body at a base
unfoldable pub corner_of : Vehicle → Base → Corner
corner_of v b = pick (is_front b) (front_corner v (unit_of v b)) (rear_corner v (unit_of v b))
