-- 26 never answers on what was laid (01, "Laying the path", "Why a walk is turned down").
use Rattle.std.specs.Prelude.{ℕ, ◌≤◌, ◌≡◌, true, Ok}
use Rattle.job.specs.declared.Job.{Job}
use Rattle.job.specs.declared.Vehicle.{Vehicle}
use Rattle.path.specs.Laying.{PathRuns, LayEnsures}
use Rattle.walk.specs.declared.Walk.{Walk}
use Rattle.walk.specs.Moving.{Advanced}
use Rattle.walk.specs.Drawn.{Call, Outcome, made, refused, refused_at}
use Rattle.walk.specs.Tests.{path_sound}
use Rattle.reaches.specs.Cells.{Reaches}
use Rattle.stations.specs.Placing as P
use Rattle.stations.specs.Placing.{Placing, PlaceEnsures}
use Rattle.stations.specs.Stepping.{StepEnsures}

-- the number by which a step is refused, with a unit or without; 0 for a made step
abbrev pub number_of : Outcome → ℕ
number_of made = 0
number_of (refused n) = n
number_of (refused_at n u) = n

-- stations asked for that were all laid in the path handed over
pub record OverLaid (n : ℕ) (laid : PathRuns) (c : Call) : Type 0 where
  pub path : c.path ≡ laid
  pub asked : c.asked ≤ n

-- what was laid passes the very test that answers 26, so neither a placement over it nor a step is refused by that number
pub record Passes (n : ℕ) (laid : PathRuns) : Type 0 where
  pub sound : (c : Call) → OverLaid n laid c → path_sound c.asked c.path ≡ true
  pub placed : (v : Vehicle) (w : Walk) (c : Call) (before : Reaches) (p : Placing) (after : Reaches) → OverLaid n laid c → PlaceEnsures v w c before p after → p.answer ≡ P.refused 26 → ⊥
  pub stepped : (w : Walk) (c : Call) (before : Reaches) (r : Advanced) (after : Reaches) → OverLaid n laid c → StepEnsures w c before r after → number_of r.answer ≡ 26 → ⊥

-- the claim: so it is wherever `lay` answered a number of stations
abbrev pub LaidPasses : Type 0
LaidPasses = (j : Job) (before : PathRuns) (n : ℕ) (laid : PathRuns) → LayEnsures j before (Ok n) laid → Passes n laid
