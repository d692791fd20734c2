-- What is never written (01, "Stations and the widest place": "Entries past the last station are never written"; 02, N3: "no step touches the bits above them").
use Rattle.std.specs.Prelude.{ℕ, ◌<◌, ◌≡◌, List, length, get_or, drop, Result}
use Rattle.refusal.specs.declared.Fault.{Fault}
use Rattle.job.specs.declared.Job.{Job}
use Rattle.job.specs.declared.Vehicle.{Vehicle}
use Rattle.marks.specs.Count.{point_count}
use Rattle.marks.specs.Marks.{bits_from}
use Rattle.path.specs.Stations.{stations}
use Rattle.path.specs.Laying.{PathRuns, LayEnsures}
use Rattle.walk.specs.declared.Walk.{Walk}
use Rattle.walk.specs.Moving.{Advanced}
use Rattle.walk.specs.Drawn.{Call}
use Rattle.reaches.specs.Cells.{Reaches}
use Rattle.stations.specs.Placing as P
use Rattle.stations.specs.Placing.{Placing, PlaceEnsures}
use Rattle.stations.specs.Stepping.{StepEnsures}
use Rattle.run.specs.Ran as R
use Rattle.ranking.specs.Ranking.{Listed}
use Rattle.bogie.specs.declared.Rail.{Rail}
use Rattle.bogie.specs.List.{ListEnsures}
use Rattle.claim.specs.WholeRun.{Run, Ensured}

-- the bits above those of a vehicle's points, in station i's mark
abbrev pub bits_above : Vehicle → ℕ → Reaches → ℕ
bits_above v i r = bits_from (point_count v) (get_or r.marks i 0)

-- a run whose entries from number n on are as before, and its length too
pub record PastKept {A : Type 0} (n : ℕ) (before after : List A) : Type 0 where
  pub entries : drop n after ≡ drop n before
  pub size : length after ≡ length before

-- so are the path's four runs, and the other three
pub record PathPastKept (n : ℕ) (before after : PathRuns) : Type 0 where
  pub xs : PastKept n before.xs after.xs
  pub ys : PastKept n before.ys after.ys
  pub gxs : PastKept n before.gxs after.gxs
  pub gys : PastKept n before.gys after.gys

pub record ReachesPastKept (n : ℕ) (before after : Reaches) : Type 0 where
  pub left : PastKept n before.left after.left
  pub right : PastKept n before.right after.right
  pub marks : PastKept n before.marks after.marks

abbrev pub station_count : Job → ℕ
station_count j = length (stations j)

-- a step call of a vehicle's walk, made or refused, whatever it is handed; the path's runs are lent to it for reading alone
pub record StepNever (v : Vehicle) (c : Call) (before after : Reaches) : Type 0 where
  pub above : (i : ℕ) → bits_above v i after ≡ bits_above v i before
  pub past : ReachesPastKept c.asked before after

-- a placement, which clears the marks of the stations asked for, every bit of them; it too only reads the path's runs
pub record PlaceNever (c : Call) (before : Reaches) (p : Placing) (after : Reaches) : Type 0 where
  pub cleared : p.answer ≡ P.placed → (i : ℕ) → i < c.asked → get_or after.marks i 0 ≡ 0
  pub past : ReachesPastKept c.asked before after

-- a whole job, in all seven runs; where it is not refused it clears the marks, and its steps leave the bits above its points so
pub record RunNever (x : Run) : Type 0 where
  pub above : ((m : ℕ) → x.answer ≡ R.refused m → ⊥) → (i : ℕ) → i < station_count x.job → bits_above x.job.vehicle i x.reaches_left ≡ 0
  pub path_past : PathPastKept (station_count x.job) x.path x.path_left
  pub past : ReachesPastKept (station_count x.job) x.reaches x.reaches_left

-- the claim, over what the five entries ensure
pub record NeverWritten : Type 0 where
  pub lay : (j : Job) (before : PathRuns) (answer : Result ℕ Fault) (after : PathRuns) → LayEnsures j before answer after → PathPastKept (station_count j) before after
  pub place : (v : Vehicle) (w : Walk) (c : Call) (before : Reaches) (p : Placing) (after : Reaches) → PlaceEnsures v w c before p after → PlaceNever c before p after
  pub step : (w : Walk) (c : Call) (before : Reaches) (r : Advanced) (after : Reaches) → StepEnsures w c before r after → StepNever w.vehicle c before after
  pub run : (x : Run) → Ensured x → RunNever x
  -- a list of settings, with a list and with 30 alike, and refused before that
  pub list : (j : Job) (b : Rail) (p : PathRuns) (r : Reaches) (answer : Listed) (p' : PathRuns) (r' : Reaches) → ListEnsures j b p r answer p' r'
      → PathPastKept (station_count j) p p' × ReachesPastKept (station_count j) r r'
