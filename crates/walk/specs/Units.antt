-- Drawing the units of a step (01, "Drawing the units"): "A step treats units from the first."
use Rattle.std.specs.Prelude.{ℕ, ◌+◌, Bool, true, List, [], ◌∷◌, ℤ, pos}
use Rattle.number.specs.Read.{pick}
use Rattle.plane.specs.declared.Vec2.{Vec2}
use Rattle.plane.specs.Vector.{plus, minus}
use Rattle.job.specs.declared.Unit.{Unit as VehicleUnit}
use Rattle.unit.specs.Turn.{turned_by, too_far}
use Rattle.unit.specs.Coupling.{hitch_offset, fold_allowed}

abbrev pub wheelbase_of : VehicleUnit → ℤ
wheelbase_of u = pos u.wheelbase

-- the rear axle R of a unit d whose front point is F, and its hitch R + nearest h × d / L
abbrev pub rear_axle : Vec2 → Vec2 → Vec2
rear_axle front d = minus front d

abbrev pub hitch_at : VehicleUnit → Vec2 → Vec2 → Vec2
hitch_at u front d = plus (rear_axle front d) (hitch_offset d u.hitch (wheelbase_of u))

-- the unit ahead, with its new vector; none is ahead of the first
pub data Ahead : Type 0 where
  none : Ahead
  behind : VehicleUnit → Vec2 → Ahead

-- "for units after the first, it is refused (23) unless 1,000 × (d of the unit ahead · d) ≥ fold limit × both wheelbases"
abbrev pub fold_kept : Ahead → VehicleUnit → Vec2 → Bool
fold_kept none u d = true
fold_kept (behind a ahead) u d = fold_allowed ahead d u.fold (wheelbase_of a) (wheelbase_of u)

-- the new vectors, or the refusal's number and unit
pub data Turning : Type 0 where
  turned : List Vec2 → Turning
  stopped : ℕ → ℕ → Turning

abbrev pub onto : Vec2 → Turning → Turning
onto d (turned ds) = turned (d ∷ ds)
onto d (stopped n i) = stopped n i

-- the units from number i on: the front point of the first of them goes from `old` to `new`, a later one's from the old hitch ahead to the new one
unfoldable pub turn_units : ℕ → Ahead → List VehicleUnit → List Vec2 → Vec2 → Vec2 → Turning
turn_units i ahead us [] old new = turned []
turn_units i ahead [] (d ∷ ds) old new = turned (d ∷ ds)
turn_units i ahead (u ∷ us) (d ∷ ds) old new =
    let f = minus new old in
    let d' = turned_by d f (wheelbase_of u) in
    pick (too_far f (wheelbase_of u)) (stopped 22 i)
    (pick (fold_kept ahead u d')
    (onto d' (turn_units (i + 1) (behind u d') us ds (hitch_at u old d) (hitch_at u new d')))
    (stopped 23 i))
