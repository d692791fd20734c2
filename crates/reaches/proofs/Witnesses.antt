-- Each requirement of this crate can be met, at the ends of its ranges too.
use Prim.Native.Nat.{ℕ, ◌+◌, ◌*◌, ◌/◌, ◌<◌}
use mathlib.Core.Path.{◌≡◌, refl, sym, subst}
use mathlib.Core.List.{List, [], ◌∷◌}
use native.Mathlib.Omega.{arith}
use lib.Dec.{lit<, lit≤}
use lib.ListN.{get_or, replicate, get_or-replicate}
use lib.IntN.{ℤ, pos, negsuc}
use lib.Signed.{◌≤ℤ◌, le_z_yes}
use Rattle.plane.specs.declared.Vec2.{Vec2}
use Rattle.marks.specs.Marks.{mark_width}
use Rattle.marks.specs.Count.{point_capacity}
use Rattle.marks.specs.Requires.{Counted}
use Rattle.path.specs.declared.Station.{Station}
use Rattle.path.specs.Laying.{PathRuns, SoundStation}
use Rattle.walk.specs.Drawn.{station_at}
use Rattle.walk.specs.Rig.{zero_vector}
use Rattle.reaches.specs.Cells.{Reaches}
use Rattle.reaches.specs.Inner.{Room, CellLent, SizedPoint, Measurable, Movable, Numbered, AllMoves, Enterable, Crossable, Searchable}
use Rattle.reaches.specs.declared.far.Spread.{Spread}
use Rattle.reaches.specs.Far.{apart, Near, PairSpread, SpreadOf, BothSized, AllSized, PairsSized, Spreadable, PairMoves, PairsMove, Measured, Missable, AtStation}

abbrev vec : ℤ → ℤ → Vec2
vec a b = record { x = a; y = b }

-- the farthest corner, with a heading just off its length
abbrev corner : Station
corner = record { position = vec (pos 150000000) (negsuc 149999999); heading = vec (pos 600001) (negsuc 799999) }

abbrev opposite : Vec2
opposite = vec (negsuc 159999999) (pos 160000000)

-- as many points as there is room for
abbrev points : List Vec2
points = replicate point_capacity opposite

-- a path of that one station, and runs of one entry
abbrev path : PathRuns
path = record { xs = pos 150000000 ∷ []; ys = negsuc 149999999 ∷ []; gxs = pos 600001 ∷ []; gys = negsuc 799999 ∷ [] }

abbrev runs : Reaches
runs = record { left = pos 2147483647 ∷ []; right = negsuc 2147483647 ∷ []; marks = 255 ∷ [] }

room_met : Room 1 runs
room_met = record { left = lit≤ tt; right = lit≤ tt; marks = lit≤ tt }

lent_met : CellLent 0 runs
lent_met = record { left = lit< tt; right = lit< tt; marks = lit< tt }

station_met : SoundStation corner
station_met = record { x = record { size = lit≤ tt }; y = record { size = lit≤ tt }; heading = record { low = le_z_yes tt; high = le_z_yes tt } }

point_met : SizedPoint opposite
point_met = record { x = record { size = lit≤ tt }; y = record { size = lit≤ tt } }

measurable_met : Measurable corner opposite
measurable_met = record { station = station_met; point = point_met }

movable_met : Movable corner opposite opposite
movable_met = record { station = station_met; from = point_met; to = point_met }

numbered_met : Numbered 5 corner opposite opposite
numbered_met = record { number = record { place = lit< tt }; move = movable_met }

counted_met : Counted point_capacity
counted_met = record { most = lit≤ tt }

-- all points alike
all_met : (p : ℕ) → p < point_capacity → SizedPoint (get_or points p zero_vector)
all_met p h = subst SizedPoint (sym (get_or-replicate point_capacity p opposite zero_vector h)) point_met

moves_met : AllMoves corner points points
moves_met = record { room = counted_met; both = refl; move = λ p h. record { station = station_met; from = all_met p h; to = all_met p h } }

-- they do not spread at all
abbrev spread : Spread
spread = record { from = opposite; near = pos 0; beside = pos 0 }

near_met : Near opposite points point_capacity (pos 0)
near_met = record { each = λ p h. subst (λ (a : Vec2). apart opposite a ≤ℤ pos 0) (sym (get_or-replicate point_capacity p opposite zero_vector h)) (le_z_yes tt) }

both_met : BothSized opposite opposite
both_met = record { first = point_met; second = point_met }

sized_points_met : AllSized opposite (pos 640000000) points
sized_points_met = record { place = point_met; least = record { size = lit≤ tt }; each = all_met }

measured_met : Measured corner opposite (pos 640000000)
measured_met = record { point = measurable_met; near = record { size = lit≤ tt } }

missable_met : Missable spread corner
missable_met = record { point = measurable_met; near = record { size = lit≤ tt } }

-- nor do the points of a pair
pairs_met : PairSpread (point_capacity / 2) points points (pos 0)
pairs_met = record { new = λ k h. together (2 * k) (2 * k) (omega arith) (omega arith); old_right = λ k h. together (2 * k) (2 * k + 1) (omega arith) (omega arith); new_right = λ k h. together (2 * k) (2 * k + 1) (omega arith) (omega arith); size = record { size = lit≤ tt } }
  where
    together : (p q : ℕ) → p < point_capacity → q < point_capacity → apart (get_or points p zero_vector) (get_or points q zero_vector) ≤ℤ pos 0
    together p q h k = rw (get_or-replicate point_capacity p opposite zero_vector h, get_or-replicate point_capacity q opposite zero_vector k) (le_z_yes tt)

pairs_sized_met : PairsSized points points
pairs_sized_met = record { both = refl; old = all_met; new = all_met }

spreadable_met : Spreadable points points
spreadable_met = record { some = lit< tt; sized = pairs_sized_met }

spread_met : SpreadOf spread points points
spread_met = record { place = point_met; old = near_met; new = near_met; size = record { size = lit≤ tt }; pairs = pairs_met }

abbrev pair : List Vec2
pair = opposite ∷ opposite ∷ []

pair_met : PairMoves corner (pos 0) pair pair
pair_met = record { left = movable_met; right = movable_met; new_near = le_z_yes tt; old_right_near = le_z_yes tt; new_right_near = le_z_yes tt; size = record { size = lit≤ tt } }

pairs_move_met : PairsMove corner (pos 0) points points
pairs_move_met = record { moves = moves_met; even = refl; pairs = pairs_met }

enterable_met : Enterable 0 corner points points runs
enterable_met = record { moves = moves_met; lent = lent_met }

at_station_met : AtStation 0 corner spread points points runs
at_station_met = record { cell = enterable_met; station = station_met; even = refl; spread = spread_met }

stations_met : (i : ℕ) → i < 1 → SoundStation (station_at path i)
stations_met i h = let e : i ≡ 0 = omega arith in subst (λ (j : ℕ). SoundStation (station_at path j)) (sym e) station_met

crossable_met : Crossable 1 path point_capacity points points runs
crossable_met = record { lent = refl; room = room_met; stations = stations_met; some = lit< tt; even = refl; points = counted_met; both = refl; old = all_met; new = all_met }

searchable_met : Searchable mark_width 1 runs
searchable_met = record { bits = record { places = lit≤ tt }; room = room_met }
