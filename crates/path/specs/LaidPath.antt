-- The claim about the path of a job that has no fault (01, "Laying the path"), and about the runs that laying leaves it in.
use Rattle.std.specs.Prelude.{ℕ, ◌+◌, ◌≤◌, ◌<◌, ◌≡◌, length, take, get_or, Ok, pos}
use Rattle.job.specs.declared.Job.{Job}
use Rattle.job.specs.Faults.{judge}
use Rattle.path.specs.declared.Station.{Station}
use Rattle.path.specs.Stations.{step_total, start_station, stations}
use Rattle.path.specs.Laying.{PathRuns, station_at, SoundStation, LayEnsures}

-- the station of a number in a job; past the last there is none, and zeros stand for it
abbrev pub no_station : Station
no_station = record { position = record { x = pos 0; y = pos 0 }; heading = record { x = pos 0; y = pos 0 } }

abbrev pub job_station : Job → ℕ → Station
job_station j i = get_or (stations j) i no_station

-- one station more than the job has steps, station 0 is the start, and each is sound
pub record SoundPath (j : Job) : Type 0 where
  pub count : length (stations j) ≡ 1 + step_total j.step 0 (take j.count j.elements)
  pub most : length (stations j) ≤ 2001
  pub start : job_station j 0 ≡ start_station j.start
  pub sound : (i : ℕ) → i < length (stations j) → SoundStation (job_station j i)

-- n stations laid: entry i of the runs is station i, and the entries past the last are as before
pub record PathInRuns (j : Job) (before : PathRuns) (n : ℕ) (after : PathRuns) : Type 0 where
  pub accepted : judge j ≡ 0
  pub count : n ≡ length (stations j)
  pub entries : (i : ℕ) → i < n → station_at after i ≡ job_station j i
  pub past : (i : ℕ) → n ≤ i → station_at after i ≡ station_at before i

pub record LaidPath : Type 0 where
  pub path : (j : Job) → judge j ≡ 0 → SoundPath j
  pub runs : (j : Job) (before : PathRuns) (n : ℕ) (after : PathRuns) → LayEnsures j before (Ok n) after → PathInRuns j before n after
