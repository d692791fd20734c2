-- The walks at the settings one after the other over one laid path, and what the functions that are no entries require of their callers.
use Rattle.std.specs.Prelude.{ℕ, zero, suc, ◌≤◌, ◌≡◌, true}
use Rattle.job.specs.declared.Vehicle.{Vehicle}
use Rattle.path.specs.Laying.{PathRuns}
use Rattle.walk.specs.Drawn.{Call}
use Rattle.walk.specs.Tests.{lent, path_sound, vehicle_sound}
use Rattle.reaches.specs.Cells.{Reaches}
use Rattle.run.specs.Ran.{Ran}
use Rattle.run.specs.Run.{ran_over, walk_over}
use Rattle.ranking.specs.Ranking.{Listed, ranked, listed_of}
use Rattle.bogie.specs.declared.Rail.{Rail}
use Rattle.bogie.specs.Settings.{setting_at, rail_allowed, vehicle_set}
use Rattle.bogie.specs.Fitting.{fitting}

-- the run at a last wheelbase over a laid path
abbrev pub over_at : ℕ → PathRuns → Vehicle → Reaches → ℕ → Ran
over_at asked path v r w = ran_over asked path (walk_over asked path (vehicle_set v w) r)

-- the runs after the first n settings: the last one's walk, or as they were handed in
abbrev pub runs_after : ℕ → PathRuns → Vehicle → Rail → Reaches → ℕ → Reaches
runs_after asked path v b r zero = r
runs_after asked path v b r (suc i) = (walk_over asked path (vehicle_set v (setting_at b i)) r).runs

-- the list and the runs after all settings
pub record WalkEnsures (asked : ℕ) (path : PathRuns) (v : Vehicle) (b : Rail) (r : Reaches) (l : Listed) (r' : Reaches) : Type 0 where
  pub listed : l ≡ listed_of (ranked (fitting (over_at asked path v r) (setting_at b) b.number))
  pub runs : r' ≡ runs_after asked path v b r b.number

-- a vehicle whose last unit stands in its array
pub record LastUnit (v : Vehicle) : Type 0 where
  pub least : 1 ≤ v.count
  pub most : v.count ≤ 4

-- what walking asks: runs that pass 21, a path that passes 26, a sound vehicle and settings that pass 29
pub record Walkable (v : Vehicle) (b : Rail) (c : Call) : Type 0 where
  pub lent : lent c ≡ true
  pub path : path_sound c.asked c.path ≡ true
  pub vehicle : vehicle_sound v ≡ true
  pub rail : rail_allowed b ≡ true
