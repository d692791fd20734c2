-- The path of steps in two parts: the stations of the first part, then those of the second from where the first ends.
use Prim.Native.Nat.{ℕ}
use mathlib.Core.Path.{◌≡◌, refl, sym, ◌∙◌, ap}
use mathlib.Core.List.{List, [], ◌∷◌, ◌++◌, map, append_assoc}
use lib.ListN.{length, get_or}
use Rattle.job.specs.declared.Element.{Element}
use Rattle.path.specs.declared.Station.{Station}
use Rattle.path.specs.Cuts.{Cut, cuts}
use Rattle.path.specs.Stations.{Step, steps_on, next_station, stations_from}

-- where steps from p end
abbrev pub last_station : Station → List Step → Station
last_station p [] = p
last_station p (s ∷ ss) = last_station (next_station p s) ss

pub stations_append : (p : Station) (ss ts : List Step) → stations_from p (ss ++ ts) ≡ stations_from p ss ++ stations_from (last_station p ss) ts
unfolding stations_from
stations_append p [] ts = refl
stations_append p (s ∷ ss) ts = ap (λ (qs : List Station). next_station p s ∷ qs) (stations_append (next_station p s) ss ts)

pub steps_append : (step : ℕ) (es fs : List Element) → steps_on step (es ++ fs) ≡ steps_on step es ++ steps_on step fs
unfolding steps_on
steps_append step [] fs = refl
steps_append step (e ∷ es) fs =
    let here : List Step = map (λ (c : Cut). record { curve = e.curve; cut = c }) (cuts step e.length) in
    ap (λ (ss : List Step). here ++ ss) (steps_append step es fs) ∙ sym (append_assoc here (steps_on step es) (steps_on step fs))

-- it is the last of the start and the stations after it
pub last_station_at : (p : Station) (ss : List Step) (z : Station) → get_or (p ∷ stations_from p ss) (length ss) z ≡ last_station p ss
unfolding stations_from
last_station_at p [] z = refl
last_station_at p (s ∷ ss) z = last_station_at (next_station p s) ss z
