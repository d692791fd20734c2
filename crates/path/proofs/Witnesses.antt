-- Each requirement of this crate can be met: the station at the far corner of the starts, the longest step, the tightest bend, and a run with just the room.
use Prim.Native.Nat.{ℕ, zero, suc, ◌<◌}
use mathlib.Core.Path.{◌≡◌, refl, sym}
use mathlib.Core.Bool.{true}
use mathlib.Core.List.{List, [], ◌∷◌}
use native.Mathlib.Omega.{arith}
use lib.Dec.{lit≤}
use lib.IntN.{ℤ, pos, negsuc, ◌*ℤ◌}
use lib.Signed.{le_z_yes}
use lib.ListN.{set, take, get_or}
use Rattle.plane.specs.Length.{heading_length, has_length, Near}
use Rattle.job.specs.declared.Curve.TheVariants.{Arc}
use Rattle.job.specs.declared.Side.TheVariants.{Left}
use Rattle.job.specs.declared.Element.{Element}
use Rattle.job.specs.Allowed.{heading_allowed, start_allowed, element_allowed}
use Rattle.job.specs.Empty.{empty_element, empty_elements}
use Rattle.path.specs.declared.Station.{Station}
use Rattle.path.specs.declared.PathCursor.{PathCursor}
use Rattle.path.specs.Stations.{step_total}
use Rattle.path.specs.Cursor.{Reachable, OnElement}
use Rattle.path.specs.Laying.{PathRuns, path_runs, Accepted, Storable, start_at, Layable}

abbrev corner : Station
corner = record { position = record { x = pos 100000000; y = negsuc 99999999 }; heading = record { x = pos 0; y = pos 1000000 } }

north : Near corner.heading heading_length (pos 2 *ℤ heading_length)
north = record { low = le_z_yes tt; high = le_z_yes tt }

-- one full step and a remainder of one tick
abbrev bend : Element
bend = record { length = 20001; curve = Arc Left 20000 }

abbrev elements : List Element
elements = set empty_elements 0 bend

reachable_met : Reachable corner bend.curve 20000
reachable_met = record {
  place = record { x = record { size = lit≤ tt }; y = record { size = lit≤ tt } };
  heading = north;
  curve = refl;
  least = lit≤ tt;
  most = lit≤ tt;
}

abbrev cursor : PathCursor
cursor = record { element = 63; before = 20000; station = corner }

on_element_met : OnElement 20000 bend cursor
on_element_met = record {
  inside = lit≤ tt;
  place = reachable_met.place;
  heading = north;
  curve = refl;
  least = lit≤ tt;
  most = lit≤ tt;
  element = lit≤ tt;
}

bend_allowed : (i : ℕ) → i < 1 → element_allowed (get_or (take 1 elements) i empty_element) ≡ true
unfolding empty_elements
bend_allowed zero h = refl
bend_allowed (suc i) h = absurd (omega arith)

steps : step_total 20000 0 (take 1 elements) ≡ 2
unfolding step_total empty_elements
steps = refl

accepted_met : Accepted 20000 (take 1 elements)
unfolding empty_elements
accepted_met = record { least = lit≤ tt; most = lit≤ tt; places = lit≤ tt; allowed = bend_allowed; total = omega (arith, steps) }

abbrev three : List ℤ
three = pos 0 ∷ pos 0 ∷ pos 0 ∷ []

abbrev runs : PathRuns
runs = path_runs three three three three

storable_met : Storable 2 corner runs
storable_met = record { room = refl; station = record { x = record { size = lit≤ tt }; y = record { size = lit≤ tt }; heading = north } }

north_start : start_allowed (start_at corner) ≡ true
unfolding heading_allowed has_length
north_start = refl

layable_met : Layable 20000 2 (take 1 elements) corner runs
layable_met = record {
  accepted = accepted_met;
  counted = sym steps;
  room = refl;
  start = north_start;
}
