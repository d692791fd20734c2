-- What a station keeps (01, "Stations and the widest place"): its left and right reach and its mark, in three lent runs, one entry a station.
use Rattle.std.specs.Prelude.{ℕ, zero, suc, List, get_or, set, length, ℤ, pos, negsuc}
use Rattle.walk.specs.Drawn.{Lengths}
use Rattle.reaches.specs.declared.Cell.{Cell}

pub record Reaches : Type 0 where
  pub left : List ℤ
  pub right : List ℤ
  pub marks : List ℕ

abbrev pub reach_runs : List ℤ → List ℤ → List ℕ → Reaches
reach_runs l r m = record { left = l; right = r; marks = m }

abbrev pub lengths_of : Reaches → Lengths
lengths_of r = record { left = length r.left; right = length r.right; marks = length r.marks }

-- one station's entries
abbrev pub cell_at : ℕ → Reaches → Cell
cell_at i r = record { left = get_or r.left i (pos 0); right = get_or r.right i (pos 0); mark = get_or r.marks i 0 }

abbrev pub store_cell : ℕ → Cell → Reaches → Reaches
store_cell i c r = record { left = set r.left i c.left; right = set r.right i c.right; marks = set r.marks i c.mark }

-- a rule carried out at the first n stations; entries past them are never written
unfoldable pub at_stations : (ℕ → Cell → Cell) → ℕ → Reaches → Reaches
at_stations f zero r = r
at_stations f (suc i) r = store_cell i (f i (cell_at i (at_stations f i r))) (at_stations f i r)

-- "A cleared station has left 2,000,000,000, right −2,000,000,000, mark 0"
abbrev pub cleared_cell : Cell
cleared_cell = record { left = pos 2000000000; right = negsuc 1999999999; mark = 0 }

abbrev pub cleared : ℕ → Reaches → Reaches
cleared asked r = at_stations (λ i c. cleared_cell) asked r
