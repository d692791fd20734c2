-- The rigid unit, and how near the drawn rig stays to it (01, "The two rigs of demand 3").
use Rattle.std.specs.Prelude.{◌+◌, ◌≡◌, true, List, [], ◌∷◌, pos, ◌*ℤ◌, ◌≤ℤ◌, ◌<ℤ◌}
use Rattle.plane.specs.declared.Vec2.{Vec2}
use Rattle.plane.specs.Vector.{dot, norm_sq, minus, right_normal}
use Rattle.plane.specs.Length.{heading_length, Near}
use Rattle.job.specs.declared.Unit.{Unit as VehicleUnit}
use Rattle.unit.specs.Turn.{mirror_line, image}
use Rattle.job.specs.declared.Vehicle.{Vehicle}
use Rattle.walk.specs.Drawn.{Drawn, Call, station_at, made}
use Rattle.walk.specs.Tests.{vehicle_sound, units_in_use}
use Rattle.walk.specs.Units.{wheelbase_of, hitch_at}
use Rattle.walk.specs.Rig.{start_vectors, draw_step}

-- "With m = 2d + f and w = 2(m·d)m − |m|²d, its new vector is w / |m|², unrounded"
abbrev pub rigid : Vec2 → Vec2 → Vec2
rigid d f = image (mirror_line d f) d

-- "At most two tenths from the line means (d' · right normal of w)² ≤ 4|w|², the same side means d' · w > 0"
pub record NearRigid (d f d' : Vec2) : Type 0 where
  pub line : (dot d' (right_normal (rigid d f)) *ℤ dot d' (right_normal (rigid d f))) ≤ℤ (pos 4 *ℤ norm_sq (rigid d f))
  pub side : pos 0 <ℤ dot d' (rigid d f)

-- every unit in use, its front point going from `old` to `new`: "a later unit's from the old hitch ahead to the new one"
abbrev pub AllNearRigid : List VehicleUnit → List Vec2 → List Vec2 → Vec2 → Vec2 → Type 0
AllNearRigid [] ds ds' old new = Unit {0}
AllNearRigid (u ∷ us) [] ds' old new = ⊥
AllNearRigid (u ∷ us) (d ∷ ds) [] old new = ⊥
AllNearRigid (u ∷ us) (d ∷ ds) (d' ∷ ds') old new = NearRigid d (minus new old) d' × AllNearRigid us ds ds' (hitch_at u old d) (hitch_at u new d')

-- "The length part means that |d|² differs from L² by at most 2L, for every unit of the vehicle"
abbrev pub AllOfLength : List VehicleUnit → List Vec2 → Type 0
AllOfLength [] ds = Unit {0}
AllOfLength (u ∷ us) [] = ⊥
AllOfLength (u ∷ us) (d ∷ ds) = Near d (wheelbase_of u) (pos 2 *ℤ wheelbase_of u) × AllOfLength us ds

-- what a sound drawn rig has: a vehicle in the job's range, and every unit its length
pub record Keeping (s : Drawn) : Type 0 where
  pub vehicle : vehicle_sound s.vehicle ≡ true
  pub lengths : AllOfLength (units_in_use s.vehicle) s.vectors

-- in a step that is made every unit stays near the rigid one, its front point moving in that call's path
abbrev pub StepNear : Drawn → Call → Type 0
StepNear s c =
    AllNearRigid (units_in_use s.vehicle) s.vectors (draw_step s c).state.vectors
    (station_at c.path s.station).position (station_at c.path (s.station + 1)).position

-- the claims of one call: the start has it, and a call, made or refused, keeps it
pub record StepRule : Type 0 where
  pub start : (v : Vehicle) (g : Vec2) → vehicle_sound v ≡ true → Near g heading_length (pos 2 *ℤ heading_length) → AllOfLength (units_in_use v) (start_vectors v g)
  pub kept : (s : Drawn) (c : Call) → Keeping s → Keeping (draw_step s c).state
  pub near : (s : Drawn) (c : Call) → Keeping s → (draw_step s c).answer ≡ made → StepNear s c
