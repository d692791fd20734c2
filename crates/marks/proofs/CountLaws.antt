-- What is known of the number of points: it is all that callers use.
use Prim.Native.Nat.{ℕ, ◌+◌, ◌*◌, ◌/◌, ◌≤◌, ◌<◌}
use mathlib.Core.Path.{◌≡◌}
use native.Mathlib.Omega.{arith}
use Rattle.job.specs.declared.Vehicle.{Vehicle}
use Rattle.marks.specs.Count.{point_count, point_capacity}
use Rattle.marks.specs.Requires.{HasPlace, HavePlaces, Counted}

-- it hangs on the number of units alone
pub same_count : (v w : Vehicle) → v.count ≡ w.count → point_count v ≡ point_count w
unfolding point_count
same_count v w e = rw e

-- the points of a vehicle that fits its own array of units fit theirs
pub count_fits : (v : Vehicle) → v.count ≤ 4 → point_count v ≤ point_capacity
unfolding point_count
count_fits v h = omega arith

-- they come in pairs
pub count_even : (v : Vehicle) → 2 * (point_count v / 2) ≡ point_count v
unfolding point_count
count_even v = omega arith

-- a point numbered from 4i + 4 on is that of a rig of more than i units
pub unit_counted : (v : Vehicle) (i k : ℕ) → 4 * i + 4 ≤ k → k < point_count v → i < v.count
unfolding point_count
unit_counted v i k h l = omega arith

-- and each of them has a bit
pub bits_fit : {n : ℕ} → Counted n → HavePlaces n
bits_fit h = record { places = omega (arith, h.most) }

pub bit_fits : {n p : ℕ} → Counted n → p < n → HasPlace p
bit_fits h l = record { place = omega (arith, h.most) }

-- there is a first point
pub some_point : (v : Vehicle) → 0 < point_count v
unfolding point_count
some_point v = omega arith
