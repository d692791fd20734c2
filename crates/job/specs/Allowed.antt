-- What the fields of a job may hold: the table of 01, "The job record", row by row, with the bodies of a long job (02, N3).
use Rattle.std.specs.Prelude.{ℕ, Bool, true, ◌&&◌, ℤ, pos, negsuc}
use Rattle.std.specs.Int.Signed.{le_z}
use Rattle.number.specs.Read.{pick}
use Rattle.number.specs.Field.{within, size_at_most}
use Rattle.plane.specs.Wheelbase.{is_wheelbase}
use Rattle.plane.specs.Length.{heading_length, has_length}
use Rattle.job.specs.declared.Curve.{Curve}
use Rattle.job.specs.declared.Curve.TheVariants.{Straight, Arc}
use Rattle.job.specs.declared.Element.{Element}
use Rattle.job.specs.declared.Body.{Body}
use Rattle.job.specs.declared.Form.{Form}
use Rattle.job.specs.declared.Form.TheVariants.{Short, Long}
use Rattle.job.specs.declared.Unit.{Unit as VehicleUnit}
use Rattle.job.specs.declared.Vehicle.{Vehicle}
use Rattle.job.specs.declared.Start.{Start}

-- a number from the least to the most
abbrev pub between : ℕ → ℕ → ℕ → Bool
between least most = within (record { least = least; most = most })

abbrev pub unit_count_allowed : ℕ → Bool
unit_count_allowed = between 1 4

-- "5,000 to 200,000", the range that the geometry of a unit has too
abbrev pub wheelbase_allowed : ℕ → Bool
wheelbase_allowed = is_wheelbase

-- "size at most that wheelbase; last unit 0"
abbrev pub hitch_most : Bool → ℕ → ℕ
hitch_most last wheelbase = pick last 0 wheelbase

abbrev pub hitch_allowed : Bool → ℕ → ℤ → Bool
hitch_allowed last wheelbase = size_at_most (hitch_most last wheelbase)

-- "first unit 0, others −1,000 to 990"
abbrev pub fold_allowed : Bool → ℤ → Bool
fold_allowed first fold = pick first (size_at_most 0 fold) (le_z (negsuc 999) fold && le_z fold (pos 990))

abbrev pub overhang_allowed : ℕ → Bool
overhang_allowed = between 0 50000

-- the overhang after all units: "the old front overhang must be 0" in a long job
abbrev pub overhang_most : Form → ℕ
overhang_most Short = 50000
overhang_most Long = 0

abbrev pub old_overhang_allowed : Form → ℕ → Bool
old_overhang_allowed form = between 0 (overhang_most form)

abbrev pub half_width_allowed : ℕ → Bool
half_width_allowed = between 1000 20000

abbrev pub coordinate_allowed : ℤ → Bool
coordinate_allowed = size_at_most 100000000

-- "gx² + gy² differs from N² by at most 2N", with N = 1,000,000
unfoldable pub heading_allowed : ℤ → ℤ → Bool
heading_allowed gx gy = has_length (record { x = gx; y = gy }) heading_length

abbrev pub step_allowed : ℕ → Bool
step_allowed = between 100 20000

abbrev pub element_count_allowed : ℕ → Bool
element_count_allowed = between 1 64

abbrev pub length_allowed : ℕ → Bool
length_allowed = between 1 40000000

-- the radius: "0, or size 20,000 to 1,000,000"; "Radius 0 is a straight"
abbrev pub curve_allowed : Curve → Bool
curve_allowed Straight = true
curve_allowed (Arc side radius) = between 20000 1000000 radius

-- the fields together, by the parts of a job
abbrev pub unit_allowed : Bool → Bool → VehicleUnit → Bool
unit_allowed first last u =
    wheelbase_allowed u.wheelbase && (hitch_allowed last u.wheelbase u.hitch && fold_allowed first u.fold)

-- "A body's overhang above 50,000 or half width outside 1,000 to 20,000 is 5"
abbrev pub body_allowed : Body → Bool
body_allowed b = overhang_allowed b.front_overhang && (overhang_allowed b.rear_overhang && half_width_allowed b.half_width)

abbrev pub widths_allowed : Vehicle → Bool
widths_allowed v = old_overhang_allowed v.form v.overhang && (half_width_allowed v.front_half_width && half_width_allowed v.rear_half_width)

abbrev pub start_allowed : Start → Bool
start_allowed s = coordinate_allowed s.x && (coordinate_allowed s.y && heading_allowed s.gx s.gy)

abbrev pub element_allowed : Element → Bool
element_allowed e = length_allowed e.length && curve_allowed e.curve
