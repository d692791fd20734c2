-- The stations of a job (01, "Laying the path").
use Rattle.std.specs.Prelude.{ℕ, List, [], ◌∷◌, ◌++◌, map, take, pos}
use Rattle.plane.specs.Vector.{plus}
use Rattle.job.specs.declared.Curve.{Curve}
use Rattle.job.specs.declared.Element.{Element}
use Rattle.job.specs.declared.Start.{Start}
use Rattle.job.specs.declared.Job.{Job}
use Rattle.job.specs.Steps.{tally}
use Rattle.job.specs.Curves.{radius_of}
use Rattle.heading.specs.PathTurn.{advance_of}
use Rattle.path.specs.declared.Station.{Station}
use Rattle.path.specs.Cuts.{Cut, cuts}

-- a step of the path: the curve it lies on, and where it is cut from its element
pub record Step : Type 0 where
  pub curve : Curve
  pub cut : Cut

-- the steps of the elements, one after the other
unfoldable pub steps_on : ℕ → List Element → List Step
steps_on step [] = []
steps_on step (e ∷ es) = map (λ (c : Cut). record { curve = e.curve; cut = c }) (cuts step e.length) ++ steps_on step es

-- how many, by the running total that the value test keeps
unfoldable pub step_total : ℕ → ℕ → List Element → ℕ
step_total step total [] = total
step_total step total (e ∷ es) = step_total step (tally step total e) es

abbrev pub job_steps : Job → List Step
job_steps j = steps_on j.step (take j.count j.elements)

-- the next station is the last plus the move
abbrev pub station_after : Station → Curve → ℕ → Station
station_after p c s =
    let a = advance_of p.heading (pos s) (radius_of c) in
    record { position = plus p.position a.shift; heading = a.heading }

abbrev pub next_station : Station → Step → Station
next_station p s = station_after p s.curve s.cut.length

-- the stations that steps lead to, from p on
unfoldable pub stations_from : Station → List Step → List Station
stations_from p [] = []
stations_from p (s ∷ ss) = next_station p s ∷ stations_from (next_station p s) ss

-- station 0 is the start
abbrev pub start_station : Start → Station
start_station s = record { position = record { x = s.x; y = s.y }; heading = record { x = s.gx; y = s.gy } }

unfoldable pub stations : Job → List Station
stations j = start_station j.start ∷ stations_from (start_station j.start) (job_steps j)
