-- What a station has kept of a walk (01, "Stations and the widest place"), told from the points of the drawn rig and not from the runs.
use Rattle.std.specs.Prelude.{ℕ, ◌<◌, ◌≡◌, Bool, true, false, ◌||◌, length, get_or, ℤ, ◌≤ℤ◌}
use mathlib.Core.List.{List, [], ◌∷◌, ◌++◌, map, Memᴰ}
use Rattle.number.specs.Read.{pick}
use Rattle.plane.specs.declared.Vec2.{Vec2}
use Rattle.job.specs.declared.Vehicle.{Vehicle}
use Rattle.marks.specs.Count.{point_count}
use Rattle.marks.specs.Marks.{has_bit}
use Rattle.path.specs.declared.Station.{Station}
use Rattle.path.specs.Laying.{PathRuns}
use Rattle.walk.specs.declared.Walk.{Walk}
use Rattle.walk.specs.Drawn.{Drawn, Call, station_at, Outcome, made, refused, refused_at}
use Rattle.walk.specs.Rig.{zero_vector, drawn_start, draw_step}
use Rattle.reaches.specs.declared.Cell.{Cell}
use Rattle.reaches.specs.Cells.{Reaches, cell_at, cleared_cell}
use Rattle.reaches.specs.Crossing.{reach_of, crosses, smaller, greater}
use Rattle.reaches.specs.Widest.{complete}
use Rattle.stations.specs.Placing as P
use Rattle.stations.specs.Placing.{Placing, call_of, start_heading, PlaceEnsures}
use Rattle.stations.specs.Stepping.{points_at, if_made, StepEnsures}
use Rattle.claim.specs.DemandThree.{Turn, Chain}

-- the points of the rig before and after a made step
pub record Moves : Type 0 where
  pub olds : List Vec2
  pub news : List Vec2

abbrev pub moves_in : Drawn → Call → Moves
moves_in s c = record { olds = points_at s c; news = points_at (draw_step s c).state c }

-- the moves of the steps that the drawn rig makes, fed these calls
unfoldable pub made_moves : Drawn → List Call → List Moves
made_moves s [] = []
made_moves s (c ∷ cs) = if_made (draw_step s c).answer (moves_in s c ∷ made_moves (draw_step s c).state cs) (made_moves (draw_step s c).state cs)

-- whether point p crossed a station in some of them
unfoldable pub ever_crossed : ℕ → Station → List Moves → Bool
ever_crossed p s [] = false
ever_crossed p s (m ∷ ms) = crosses s (get_or m.olds p zero_vector) (get_or m.news p zero_vector) || ever_crossed p s ms

-- the reaches at both ends of each move that crosses the station
unfoldable pub entering_in : Station → List Vec2 → List Vec2 → List ℤ
entering_in s [] news = []
entering_in s (old ∷ olds) [] = []
entering_in s (old ∷ olds) (new ∷ news) = pick (crosses s old new) (reach_of s old ∷ reach_of s new ∷ entering_in s olds news) (entering_in s olds news)

unfoldable pub entering : Station → List Moves → List ℤ
entering s [] = []
entering s (m ∷ ms) = entering_in s m.olds m.news ++ entering s ms

-- the least of a number and those of a list, and the greatest
unfoldable pub least_of : ℤ → List ℤ → ℤ
least_of l [] = l
least_of l (z ∷ zs) = least_of (smaller l z) zs

unfoldable pub greatest_of : ℤ → List ℤ → ℤ
greatest_of l [] = l
greatest_of l (z ∷ zs) = greatest_of (greater l z) zs

-- "the reaches at both ends of that move enter the station's left (smallest) and right (greatest)", which placement has cleared
abbrev pub left_of : Station → List Moves → ℤ
left_of s ms = least_of cleared_cell.left (entering s ms)

abbrev pub right_of : Station → List Moves → ℤ
right_of s ms = greatest_of cleared_cell.right (entering s ms)

-- the whole rig has crossed it: each of its points has, of which there are n
abbrev pub AllCrossed : ℕ → Station → List Moves → Type 0
AllCrossed n s ms = (p : ℕ) → p < n → ever_crossed p s ms ≡ true

-- a cell that tells it all: a bit for each point that crossed, the least and the greatest of what entered; where nothing did, the cleared values; it is complete just where the whole rig has crossed
pub record Kept (n : ℕ) (s : Station) (ms : List Moves) (c : Cell) : Type 0 where
  pub bits : (p : ℕ) → p < n → has_bit p c.mark ≡ ever_crossed p s ms
  pub left : c.left ≡ left_of s ms
  pub right : c.right ≡ right_of s ms
  pub whole : complete n c ≡ true → AllCrossed n s ms
  pub only_whole : AllCrossed n s ms → complete n c ≡ true

-- the least and the greatest of some numbers are two of them
pub record Extremes (zs : List ℤ) (l r : ℤ) : Type 0 where
  pub least : Memᴰ l zs
  pub none_less : (z : ℤ) → Memᴰ z zs → l ≤ℤ z
  pub greatest : Memᴰ r zs
  pub none_greater : (z : ℤ) → Memᴰ z zs → z ≤ℤ r

-- a placement on a path and the step calls after it: what was handed over, what was answered and what the runs held
pub record History : Type 0 where
  pub vehicle : Vehicle
  pub walk : Walk
  pub asked : ℕ
  pub path : PathRuns
  pub before : Reaches
  pub placing : Placing
  pub after : Reaches
  pub turns : List Turn

abbrev pub place_call : History → Call
place_call h = call_of h.asked h.path h.before

-- the placement's runs after a call: as it left them where it was made, as they were where it was refused
abbrev pub left_by : Reaches → Turn → Reaches
left_by r t = if_made t.result.answer t.after r

-- every call that is made is over these stations and this path, and is handed the placement's runs as they were last left;
-- one that is refused may bring anything: its own number of stations, its own path, its own runs
unfoldable pub MadeOver : ℕ → PathRuns → Reaches → List Turn → Type 0
MadeOver asked path r [] = Unit {0}
MadeOver asked path r (t ∷ ts) =
    (t.result.answer ≡ made → (t.before ≡ r) × (t.call ≡ call_of asked path r))
    × MadeOver asked path (left_by r t) ts

unfoldable pub runs_left : Reaches → List Turn → Reaches
runs_left r [] = r
runs_left r (t ∷ ts) = runs_left (left_by r t) ts

-- the placement was accepted, each call's outcome is what `step` ensures at the record that the one before left, and those made are over the placement's path and runs
pub record Lawful (h : History) : Type 0 where
  pub placement : PlaceEnsures h.vehicle h.walk (place_call h) h.before h.placing h.after
  pub accepted : h.placing.answer ≡ P.placed
  pub chain : Chain h.placing.walk h.turns
  pub over : MadeOver h.asked h.path h.after h.turns

-- the moves of the drawn rig, fed all the calls, made or refused
abbrev pub moves_of : History → List Moves
moves_of h = made_moves (drawn_start h.vehicle (start_heading (place_call h))) (map (λ (t : Turn). t.call) h.turns)

-- the placement's runs after the last of them
abbrev pub runs_of : History → Reaches
runs_of h = runs_left h.after h.turns

abbrev pub answers_of : History → List Outcome
answers_of h = map (λ (t : Turn). t.result.answer) h.turns

-- the claim: after an accepted placement and any calls every station of its path has kept just what the made steps gave it;
-- where any point has crossed, left and right are reaches that entered, the cleared values lying beyond them all (a vehicle has four places for units, by its type);
-- a refused call leaves the runs that it was lent, so those of the placement stay where it was lent them; and there are such calls, refused ones between made ones
pub record StationHistory : Type 0 where
  pub kept : (h : History) → Lawful h → (i : ℕ) → i < h.asked → Kept (point_count h.vehicle) (station_at h.path i) (moves_of h) (cell_at i (runs_of h))
  pub entered : (h : History) → Lawful h → length h.vehicle.units ≡ 4 → (i : ℕ) → i < h.asked → let s = station_at h.path i in
      (p : ℕ) → p < point_count h.vehicle → ever_crossed p s (moves_of h) ≡ true → Extremes (entering s (moves_of h)) (left_of s (moves_of h)) (right_of s (moves_of h))
  pub refused_leaves : (w : Walk) (t : Turn) → StepEnsures w t.call t.before t.result t.after → (t.result.answer ≡ made → ⊥) → t.after ≡ t.before
  pub some_calls : (h : History) × Lawful h × (answers_of h ≡ made ∷ refused 21 ∷ refused 26 ∷ made ∷ refused 27 ∷ refused_at 22 1 ∷ made ∷ refused 25 ∷ [])
