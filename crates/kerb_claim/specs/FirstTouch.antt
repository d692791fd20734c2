-- The kerb report against the steps themselves (02, N4): what it says of the step calls that the walk would make along that path until one is refused.
use Rattle.std.specs.Prelude.{ℕ, zero, suc, ◌+◌, ◌<◌, ◌≡◌, true, false, length, get_or}
use mathlib.Core.List.{List, [], ◌∷◌, Memᴰ}
use Rattle.plane.specs.declared.Vec2.{Vec2}
use Rattle.path.specs.Laying.{PathRuns}
use Rattle.walk.specs.declared.Walk.{Walk}
use Rattle.walk.specs.Drawn.{view, station_at, made, refused, refused_at}
use Rattle.walk.specs.Tests.{reaches_lent}
use Rattle.walk.specs.Rig.{zero_vector}
use Rattle.marks.specs.Count.{point_count}
use Rattle.points.specs.Points.{points_of}
use Rattle.reaches.specs.Cells.{Reaches, lengths_of}
use Rattle.stations.specs.Stepping.{StepEnsures}
use Rattle.claim.specs.DemandThree.{Turn, Chain}
use Rattle.claim.specs.WholeRun.{Handed, UntilRefused, last_answer}
use Rattle.touching.specs.Touch.{Meeting}
use Rattle.kerb_line.specs.Kerb.{KerbRuns, vertices, kerb_lent, kerb_sound}
use Rattle.kerb_line.specs.Contact.{Segment, segments}
use Rattle.kerb_report.specs.Answers.{KerbReport}
use Rattle.kerb_report.specs.Answers as R
use Rattle.kerb_report.specs.Ranges.{ReportEnsures}

-- what a report is asked: a record, the stations of a path, and the vertices of a kerb
pub record Question : Type 0 where
  pub walk : Walk
  pub asked : ℕ
  pub path : PathRuns
  pub count : ℕ
  pub kerb : KerbRuns

abbrev pub ReportAnswered : Question → KerbReport → Type 0
ReportAnswered q r = ReportEnsures (view q.walk) q.asked q.path q.count q.kerb r

-- a step call over that path, on runs long enough for it
pub record CallOver (n : ℕ) (p : PathRuns) (t : Turn) : Type 0 where
  pub asked : t.call.asked ≡ n
  pub path : t.call.path ≡ p
  pub room : reaches_lent n t.call.reaches ≡ true

unfoldable pub AllOver : ℕ → PathRuns → List Turn → Type 0
AllOver n p [] = Unit {0}
AllOver n p (t ∷ ts) = CallOver n p t × AllOver n p ts

-- such calls one after the other, from that record until one is refused
pub record CallsMade (q : Question) (ts : List Turn) : Type 0 where
  pub chain : Chain q.walk ts
  pub over : AllOver q.asked q.path ts
  pub until : UntilRefused ts

-- the record after the first i calls
unfoldable pub record_after : ℕ → Walk → List Turn → Walk
record_after zero w ts = w
record_after (suc i) w [] = w
record_after (suc i) w (t ∷ ts) = record_after i t.result.walk ts

-- call i, counted from 0, is there and made
unfoldable pub MadeCall : ℕ → List Turn → Type 0
MadeCall i [] = ⊥
MadeCall zero (t ∷ ts) = t.result.answer ≡ made
MadeCall (suc i) (t ∷ ts) = MadeCall i ts

-- where point p of a walk lies
abbrev pub point_of : PathRuns → Walk → ℕ → Vec2
point_of path w p = get_or (points_of (view w) (station_at path w.station).position) p zero_vector

-- the move of point p from one record to the next touches or crosses a segment of the kerb: some point lies on both
pub record Touches (path : PathRuns) (kerb : List Segment) (w w' : Walk) (p : ℕ) : Type 0 where
  pub point : p < point_count w.vehicle
  pub segment : Segment
  pub among : Memᴰ segment kerb
  pub meeting : Meeting (point_of path w p) (point_of path w' p) segment.from segment.to

-- the segments of the kerb, and the move of point p in call i
abbrev pub segments_of : Question → List Segment
segments_of q = segments (vertices q.count q.kerb)

abbrev pub TouchesIn : Question → List Turn → ℕ → ℕ → Type 0
TouchesIn q ts i p = Touches q.path (segments_of q) (record_after i q.walk ts) (record_after (suc i) q.walk ts) p

-- no point's move in a made call touches
abbrev pub NoTouch : Question → List Turn → Type 0
NoTouch q ts = (i p : ℕ) → MadeCall i ts → TouchesIn q ts i p → ⊥

-- step k and its point p: a made call that leads to station k, in which p touches and no lower point does, and no point in a made call before it
pub record FirstAt (q : Question) (ts : List Turn) (k p : ℕ) : Type 0 where
  pub call : ℕ
  pub counted : k ≡ q.walk.station + suc call
  pub is_made : MadeCall call ts
  pub leads : (record_after (suc call) q.walk ts).station ≡ k
  pub touches : TouchesIn q ts call p
  pub lower : (j : ℕ) → j < p → TouchesIn q ts call j → ⊥
  pub earlier : (i j : ℕ) → i < call → MadeCall i ts → TouchesIn q ts i j → ⊥

-- every made call passes without a touch, and the one that is refused has come to the last station
pub record ClearToEnd (q : Question) (ts : List Turn) : Type 0 where
  pub clear : NoTouch q ts
  pub ended : last_answer ts ≡ refused 25

-- or is refused at a unit, as step k
pub record ClearToStop (q : Question) (ts : List Turn) (m u k : ℕ) : Type 0 where
  pub clear : NoTouch q ts
  pub ended : last_answer ts ≡ refused_at m u
  pub counted : k ≡ q.walk.station + length ts

-- a report that is refused: so is every such call from that record, by the same number; or it is the kerb's own 21 or 26
pub data RefusedFor (q : Question) (m : ℕ) : Type 0 where
  as_step : ((t : Turn) → StepEnsures q.walk t.call t.before t.result t.after → CallOver q.asked q.path t → t.result.answer ≡ refused m) → RefusedFor q m
  kerb_short : m ≡ 21 → kerb_lent q.count q.kerb ≡ false → RefusedFor q m
  kerb_unsound : m ≡ 26 → kerb_sound q.count q.kerb ≡ false → RefusedFor q m

-- the calls that a report is compared with, each handed the runs that the one before left
pub record CallsThere (q : Question) (runs : Reaches) : Type 0 where
  pub turns : List Turn
  pub walked : CallsMade q turns
  pub handed : Handed q.asked q.path runs turns

-- the claim, by what the report answers; and there are such calls for any record and any path
pub record FirstTouch : Type 0 where
  pub touch : (q : Question) (ts : List Turn) → CallsMade q ts → (k p : ℕ) → ReportAnswered q (R.touch k p) → FirstAt q ts k p
  pub nothing : (q : Question) (ts : List Turn) → CallsMade q ts → ReportAnswered q R.nothing → ClearToEnd q ts
  pub stopped : (q : Question) (ts : List Turn) → CallsMade q ts → (m u k : ℕ) → ReportAnswered q (R.stopped m u k) → ClearToStop q ts m u k
  pub refused : (q : Question) (m : ℕ) → ReportAnswered q (R.refused m) → RefusedFor q m
  pub calls : (q : Question) (runs : Reaches) → reaches_lent q.asked (lengths_of runs) ≡ true → CallsThere q runs
