-- From one station to the next: the step can be made, the heading is kept, and no coordinate moves farther than the step.
use mathlib.Core.Path.{◌≡◌, refl}
use mathlib.Core.Bool.{true}
use Prim.Native.Nat.{ℕ, zero, suc, ◌+◌, ◌≤◌}
use native.Mathlib.Omega.{arith}
use lib.IntN.{pos, ◌*ℤ◌}
use Rattle.exact.specs.Size.{Within}
use Rattle.exact.proofs.Order.{pos-≤}
use Rattle.exact.proofs.Sizes.{within_add, within_more}
use Rattle.plane.specs.declared.Vec2.{Vec2}
use Rattle.plane.specs.Vector.{Moderate}
use Rattle.plane.specs.Length.{heading_length, Near}
use Rattle.job.specs.declared.Curve.{Curve}
use Rattle.job.specs.declared.Curve.TheVariants.{Straight, Arc}
use Rattle.job.specs.declared.Side.TheVariants.{Left, Right}
use Rattle.job.specs.Allowed.{curve_allowed}
use Rattle.job.specs.Curves.{radius_of, radius_allowed}
use Rattle.heading.specs.Turn.{heading_after, move_of}
use Rattle.heading.specs.PathTurn.{advance_of, Steerable, Movable}
use Rattle.heading.proofs.Steering.{after_near, move_within}
use Rattle.path.specs.declared.Station.{Station}
use Rattle.path.specs.Stations.{station_after}
use Rattle.path.specs.Cursor.{Reachable}

-- a curve that is allowed has a radius that is
radius_allowed_lem : (c : Curve) → curve_allowed c ≡ true → radius_allowed (radius_of c) ≡ true
radius_allowed_lem Straight e = refl
radius_allowed_lem (Arc Right zero) e = refl
radius_allowed_lem (Arc Right (suc r)) e = e
radius_allowed_lem (Arc Left zero) e = refl
radius_allowed_lem (Arc Left (suc r)) e = e

module _ (p : Station) (c : Curve) (s : ℕ) (t : Reachable p c s) where
  pub steerable : Steerable p.heading (pos s) (radius_of c)
  steerable = record { heading = t.heading; least = pos-≤ t.least; most = pos-≤ t.most; radius = radius_allowed_lem c t.curve }

  abbrev after : Vec2
  after = heading_after p.heading (pos s) (radius_of c)

  pub heading_kept : Near (station_after p c s).heading heading_length (pos 2 *ℤ heading_length)
  heading_kept = after_near p.heading (pos s) (radius_of c) steerable

  movable : Movable p.heading after (pos s)
  movable = record { old = t.heading; new = heading_kept; least = pos-≤ t.least; most = pos-≤ t.most }

  shift_within : Within s (move_of p.heading after (pos s)).x × Within s (move_of p.heading after (pos s)).y
  shift_within = move_within p.heading after s movable

  pub shift_moderate : Moderate (advance_of p.heading (pos s) (radius_of c)).shift
  shift_moderate =
      let h : s ≤ 2000000000 = omega (arith, t.most) in
      record { x = within_more h shift_within.0; y = within_more h shift_within.1 }

  -- each coordinate moves by at most s
  pub position_within : (b : ℕ) → Within b p.position.x × Within b p.position.y → Within (b + s) (station_after p c s).position.x × Within (b + s) (station_after p c s).position.y
  position_within b w = (within_add w.0 shift_within.0, within_add w.1 shift_within.1)
