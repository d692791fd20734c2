-- The path walked by value, a step at a time: a cursor is the element it is on, the ticks of that element behind it, and the station it has reached.
use Rattle.std.specs.Prelude.{ℕ, ◌+◌, ◌-◌, ◌<◌, ◌≤◌, ◌≡◌, true, leb, ltb, pos, ◌*ℤ◌}
use Rattle.number.specs.Read.{pick}
use Rattle.plane.specs.Vector.{Moderate}
use Rattle.plane.specs.Length.{heading_length, Near}
use Rattle.job.specs.declared.Curve.{Curve}
use Rattle.job.specs.declared.Element.{Element}
use Rattle.job.specs.Allowed.{curve_allowed}
use Rattle.path.specs.declared.Station.{Station}
use Rattle.path.specs.declared.PathCursor.{PathCursor}
use Rattle.path.specs.Stations.{station_after}

abbrev pub least_of : ℕ → ℕ → ℕ
least_of a b = pick (leb a b) a b

-- a full step, or what is left of the element
abbrev pub step_length : ℕ → ℕ → ℕ → ℕ
step_length length before step = least_of step (length - before)

-- one step on; past its last tick the cursor stands on the next element
abbrev pub onto : ℕ → PathCursor → ℕ → Station → PathCursor
onto length c behind p =
    pick (ltb behind length)
    (record { element = c.element; before = behind; station = p })
    (record { element = c.element + 1; before = 0; station = p })

unfoldable pub cursor_after : ℕ → Element → PathCursor → PathCursor
cursor_after step e c =
    let s = step_length e.length c.before step in
    onto e.length c (c.before + s) (station_after c.station e.curve s)

-- what a step from a station asks
pub record Reachable (p : Station) (c : Curve) (s : ℕ) : Type 0 where
  pub place : Moderate p.position
  pub heading : Near p.heading heading_length (pos 2 *ℤ heading_length)
  pub curve : curve_allowed c ≡ true
  pub least : 1 ≤ s
  pub most : s ≤ 20000

-- what a cursor on an element asks
pub record OnElement (step : ℕ) (e : Element) (c : PathCursor) : Type 0 where
  pub inside : c.before < e.length
  pub place : Moderate c.station.position
  pub heading : Near c.station.heading heading_length (pos 2 *ℤ heading_length)
  pub curve : curve_allowed e.curve ≡ true
  pub least : 1 ≤ step
  pub most : step ≤ 20000
  pub element : c.element < 64
