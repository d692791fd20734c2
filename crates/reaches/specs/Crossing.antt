-- Crossing a station (01, "Stations and the widest place").
use Rattle.std.specs.Prelude.{ℕ, ◌+◌, Bool, false, ◌&&◌, ◌||◌, List, [], ◌∷◌, ℤ, pos}
use Rattle.std.specs.Int.Signed.{le_z, lt_z}
use Rattle.exact.specs.Nearest.{nearest_z}
use Rattle.number.specs.Read.{pick}
use Rattle.plane.specs.declared.Vec2.{Vec2}
use Rattle.plane.specs.Vector.{dot, minus, right_normal}
use Rattle.plane.specs.Length.{heading_length}
use Rattle.marks.specs.Marks.{with_bit}
use Rattle.path.specs.declared.Station.{Station}
use Rattle.path.specs.Laying.{PathRuns}
use Rattle.walk.specs.Drawn.{station_at}
use Rattle.reaches.specs.declared.Cell.{Cell}
use Rattle.reaches.specs.Cells.{Reaches, cell_at, store_cell, at_stations}

-- (A − P) · g
abbrev pub ahead_of : Station → Vec2 → ℤ
ahead_of s a = dot (minus a s.position) s.heading

-- the reach, the paper's word for how far to the right of a station a point lies: nearest ((A − P) · right normal of g) / N, negative to the left
unfoldable pub reach_of : Station → Vec2 → ℤ
reach_of s a = nearest_z (dot (minus a s.position) (right_normal s.heading)) heading_length

-- "when (A − P) · g goes from below 0 to 0 or more"
unfoldable pub crosses : Station → Vec2 → Vec2 → Bool
crosses s old new = lt_z (ahead_of s old) (pos 0) && le_z (pos 0) (ahead_of s new)

abbrev pub smaller : ℤ → ℤ → ℤ
smaller a b = pick (le_z a b) a b

abbrev pub greater : ℤ → ℤ → ℤ
greater a b = pick (le_z a b) b a

-- "Then the reaches at both ends of that move enter the station's left (smallest) and right (greatest), and the point's bit is set in its mark"
unfoldable pub crossed_by : ℕ → Station → Vec2 → Vec2 → Cell → Cell
crossed_by p s old new c =
    pick (crosses s old new)
    (record {
      left = smaller c.left (smaller (reach_of s old) (reach_of s new));
      right = greater c.right (greater (reach_of s old) (reach_of s new));
      mark = with_bit p c.mark;
    })
    c

-- the points from number p on, at their old and new places
unfoldable pub crossed_from : ℕ → Station → List Vec2 → List Vec2 → Cell → Cell
crossed_from p s [] news c = c
crossed_from p s (old ∷ olds) [] c = c
crossed_from p s (old ∷ olds) (new ∷ news) c = crossed_from (p + 1) s olds news (crossed_by p s old new c)

-- whether any point crosses: where none does, nothing is written
unfoldable pub some_crosses : Station → List Vec2 → List Vec2 → Bool
some_crosses s [] news = false
some_crosses s (old ∷ olds) [] = false
some_crosses s (old ∷ olds) (new ∷ news) = crosses s old new || some_crosses s olds news

-- a made step at one station, and at every station of the path
abbrev pub crossed_station : ℕ → Station → List Vec2 → List Vec2 → Reaches → Reaches
crossed_station i s olds news r = store_cell i (crossed_from 0 s olds news (cell_at i r)) r

abbrev pub crossed : ℕ → PathRuns → List Vec2 → List Vec2 → Reaches → Reaches
crossed asked path olds news r = at_stations (λ i c. crossed_from 0 (station_at path i) olds news c) asked r
