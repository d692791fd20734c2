-- Where the path of a job ends, as the trials measure it.
use Rattle.std.specs.Prelude.{ℕ, ◌-◌}
use Rattle.exact.specs.Size.{Within}
use Rattle.plane.specs.declared.Vec2.{Vec2}
use Rattle.job.specs.declared.Job.{Job}
use Rattle.refusal.specs.Numbers.{Answer, answered, refused}
use Rattle.path.specs.LaidPath.{job_station}
use Rattle.path_trials.specs.declared.PathEnd.{PathEnd}

-- what laying answered, and the place of the last station; or the number of the refusal
abbrev pub end_of : Job → Answer ℕ → Answer PathEnd
end_of j (answered n) = answered (record { stations = n; position = (job_station j (n - 1)).position })
end_of j (refused n) = refused n

-- a place that a distance can be measured from
pub record Measurable (v : Vec2) : Type 0 where
  pub x : Within 150000000 v.x
  pub y : Within 150000000 v.y

pub record BothMeasurable (a b : Vec2) : Type 0 where
  pub first : Measurable a
  pub second : Measurable b
