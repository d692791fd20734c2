-- Where the hitch of a unit lies (01, "Drawing the units": "R + nearest h × d / L of the unit ahead"; "The job record": "distance ahead of the rear axle").
use Rattle.std.specs.Prelude.{ℕ, ◌≤◌, ◌≡◌, ℤ, pos, neg_ℤ}
use Rattle.plane.specs.declared.Vec2.{Vec2}
use Rattle.plane.specs.Vector.{plus, times}
use Rattle.job.specs.declared.Body.{Body}
use Rattle.job.specs.declared.Unit.{Unit as VehicleUnit}
use Rattle.walk.specs.Units.{rear_axle, hitch_at}

-- a unit by its wheelbase, its hitch, its fold limit and its body
abbrev pub unit_with : ℕ → ℤ → ℤ → Body → VehicleUnit
unit_with l h limit body = record { wheelbase = l; hitch = h; fold = limit; body = body }

-- the claim, which pins the hitch's sign: the whole wheelbase ahead lies the front point, at no distance the rear axle,
-- and the rear axle lies midway between a hitch ahead of it and one as far behind
pub record HitchPlace : Type 0 where
  pub front : (l : ℕ) (limit : ℤ) (body : Body) (front d : Vec2) → 1 ≤ l → hitch_at (unit_with l (pos l) limit body) front d ≡ front
  pub axle : (l : ℕ) (limit : ℤ) (body : Body) (front d : Vec2) → 1 ≤ l → hitch_at (unit_with l (pos 0) limit body) front d ≡ rear_axle front d
  pub midway : (l : ℕ) (h limit : ℤ) (body : Body) (front d : Vec2) → 1 ≤ l
      → plus (hitch_at (unit_with l h limit body) front d) (hitch_at (unit_with l (neg_ℤ h) limit body) front d) ≡ times (rear_axle front d) (pos 2)
