-- A unit that can be drawn: its sizes, its hitch, its turn, and that it can be drawn again after it.
use Prim.Native.Nat.{ℕ, ◌+◌}
use mathlib.Core.Path.{◌≡◌}
use mathlib.Core.Bool.{false}
use native.Mathlib.Omega.{arith}
use lib.IntN.{neg_ℤ}
use lib.Signed.{◌≤ℤ◌}
use Rattle.exact.specs.Size.{Within}
use Rattle.exact.proofs.Sizes.{≤-size, ≥-size, within_more, within_add, within_sub}
use Rattle.plane.specs.declared.Vec2.{Vec2}
use Rattle.plane.specs.Vector.{Moderate}
use Rattle.job.specs.declared.Unit.{Unit as VehicleUnit}
use Rattle.unit.specs.Turn.{turned_by, too_far, Turnable, UnitSized}
use Rattle.unit.specs.Coupling.{hitch_offset, Hitched, Coupled}
use Rattle.unit.proofs.UnitSizes.{near_sized, near_hitched, near_coupled}
use Rattle.unit.proofs.Hitching.{hitch_sized}
use Rattle.unit.proofs.UnitTests.{move_of_lem}
use Rattle.unit.proofs.Turning.{turned_near}
use Rattle.walk.specs.Units.{wheelbase_of, rear_axle, hitch_at}
use Rattle.walk.specs.Inner.{UnitDrawn, Placed, FoldReady}

-- moderate numbers
pub placed_moderate : {p : Vec2} → Placed p → Moderate p
placed_moderate p = record { x = within_more (omega arith) p.x; y = within_more (omega arith) p.y }

pub sized_moderate : {d : Vec2} → UnitSized d → Moderate d
sized_moderate s = record { x = within_more (omega arith) s.x; y = within_more (omega arith) s.y }

module _ {u : VehicleUnit} {d : Vec2} (t : UnitDrawn u d) where
  pub vector_sized : UnitSized d
  vector_sized = near_sized t.ready.wheelbase t.near

  hitch_low : neg_ℤ (wheelbase_of u) ≤ℤ u.hitch
  hitch_low = ≥-size (record { size = t.ready.hitch })

  hitch_high : u.hitch ≤ℤ wheelbase_of u
  hitch_high = ≤-size (record { size = t.ready.hitch })

  pub hitched : Hitched d u.hitch (wheelbase_of u)
  hitched = near_hitched t.ready.wheelbase t.near hitch_low hitch_high

  pub offset_sized : UnitSized (hitch_offset d u.hitch (wheelbase_of u))
  offset_sized = hitch_sized d u.hitch (wheelbase_of u) t.ready.wheelbase hitch_low hitch_high vector_sized

  -- where a front point lies within b, the hitch lies within b and 400,000
  pub hitch_within : (front : Vec2) (b : ℕ) → Within b front.x × Within b front.y → Within (b + 400000) (hitch_at u front d).x × Within (b + 400000) (hitch_at u front d).y
  hitch_within front b w =
      let v = vector_sized in
      let o = offset_sized in
      (within_more (omega arith) (within_add (within_sub w.0 v.x) o.x), within_more (omega arith) (within_add (within_sub w.1 v.y) o.y))

  pub rear_moderate : (front : Vec2) → Placed front → Moderate (rear_axle front d)
  rear_moderate front p =
      let v = vector_sized in
      record { x = within_more (omega arith) (within_sub p.x v.x); y = within_more (omega arith) (within_sub p.y v.y) }

  -- a move that is not too far
  pub turnable : (f : Vec2) → too_far f (wheelbase_of u) ≡ false → Turnable d f (wheelbase_of u)
  turnable f e = record { wheelbase = t.ready.wheelbase; near = t.near; move = move_of_lem f (wheelbase_of u) e }

  pub drawn_again : (f : Vec2) → too_far f (wheelbase_of u) ≡ false → UnitDrawn u (turned_by d f (wheelbase_of u))
  drawn_again f e = record { ready = t.ready; near = turned_near d f (wheelbase_of u) (turnable f e) }

pub coupled : {a u : VehicleUnit} {ahead d : Vec2} → FoldReady a ahead u d → Coupled ahead d u.fold (wheelbase_of a) (wheelbase_of u)
coupled r = near_coupled r.lead.ready.wheelbase r.unit.ready.wheelbase r.lead.near r.unit.near r.unit.ready.fold
