-- The widest place (01, "Stations and the widest place"): "the complete station with the greatest right minus left, lowest number among equals".
use Rattle.std.specs.Prelude.{ℕ, zero, suc, ◌<◌, ◌≡◌, Bool, true, false, ◌&&◌, Option, None, Some, ℤ, ◌-ℤ◌, ◌≤ℤ◌, ◌<ℤ◌}
use Rattle.std.specs.Int.Signed.{lt_z}
use Rattle.number.specs.Read.{pick}
use Rattle.job.specs.Allowed.{between}
use Rattle.marks.specs.Count.{point_count}
use Rattle.marks.specs.Marks.{all_set}
use Rattle.walk.specs.Drawn.{Drawn}
use Rattle.walk.specs.Tests.{reaches_lent, record_sound}
use Rattle.reaches.specs.declared.Place.{Place}
use Rattle.reaches.specs.declared.Cell.{Cell}
use Rattle.refusal.specs.Numbers.{Answer, answered, refused}
use Rattle.reaches.specs.Cells.{Reaches, lengths_of, cell_at}

-- "complete means all the rig's points" (02, N3): the bits of them all are set
abbrev pub complete : ℕ → Cell → Bool
complete count c = all_set count c.mark

abbrev pub width : Cell → ℤ
width c = c.right -ℤ c.left

abbrev pub place_of : ℕ → Cell → Place
place_of i c = record { station = i; width = width c; left = c.left; right = c.right }

-- whether a place beats the best before it: only a greater width does, so the lowest number stays among equals
abbrev pub beats : Place → Place → Bool
beats p q = lt_z q.width p.width

-- the best so far, with a place more
abbrev pub wider : Place → Option Place → Option Place
wider p None = Some p
wider p (Some q) = pick (beats p q) (Some p) (Some q)

abbrev pub considered : ℕ → ℕ → Cell → Option Place → Option Place
considered count i c b = pick (complete count c) (wider (place_of i c) b) b

unfoldable pub widest_among : ℕ → ℕ → Reaches → Option Place
widest_among count zero r = None
widest_among count (suc i) r = considered count i (cell_at i r) (widest_among count i r)

abbrev pub answer_of : Option Place → Answer Place
answer_of None = refused 24
answer_of (Some p) = answered p

-- 21, of the three runs that are read
unfoldable pub widest_lent : ℕ → Reaches → Bool
widest_lent asked r = between 1 2001 asked && reaches_lent asked (lengths_of r)

-- "The widest therefore takes the walk record too, and tests 27 between 21 and 24" (02, N3); it counts the points of the record's own vehicle
unfoldable pub widest_answer : Drawn → ℕ → Reaches → Answer Place
widest_answer s asked r =
    pick (widest_lent asked r)
    (pick (record_sound asked s)
    (answer_of (widest_among (point_count s.vehicle) asked r))
    (refused 27))
    (refused 21)

-- a place that is right to answer: a complete station as it stands in the runs, no complete one wider and none earlier as wide
pub record IsWidest (count asked : ℕ) (r : Reaches) (p : Place) : Type 0 where
  pub inside : p.station < asked
  pub whole : complete count (cell_at p.station r) ≡ true
  pub read : p ≡ place_of p.station (cell_at p.station r)
  pub greatest : (i : ℕ) → i < asked → complete count (cell_at i r) ≡ true → width (cell_at i r) ≤ℤ p.width
  pub earliest : (i : ℕ) → i < p.station → complete count (cell_at i r) ≡ true → width (cell_at i r) <ℤ p.width

abbrev pub NoneComplete : ℕ → ℕ → Reaches → Type 0
NoneComplete count asked r = (i : ℕ) → i < asked → complete count (cell_at i r) ≡ false

-- the claim, over any record and runs: a place answered is right; 24 is answered exactly where the runs are lent, the record passes 27 and no station is complete
pub record WidestPlace : Type 0 where
  pub found : (s : Drawn) (asked : ℕ) (r : Reaches) (p : Place) → widest_answer s asked r ≡ answered p → IsWidest (point_count s.vehicle) asked r p
  pub nowhere : (s : Drawn) (asked : ℕ) (r : Reaches) → widest_answer s asked r ≡ refused 24 → NoneComplete (point_count s.vehicle) asked r
  pub only : (s : Drawn) (asked : ℕ) (r : Reaches) → widest_lent asked r ≡ true → record_sound asked s ≡ true
      → NoneComplete (point_count s.vehicle) asked r → widest_answer s asked r ≡ refused 24
