-- Laying a path into four lent runs (01, "Why a job is turned down": "Laying a path tests 3 to 9 likewise, then 21").
use Rattle.std.specs.Prelude.{ℕ, ◌+◌, ◌≤◌, ◌<◌, ◌≡◌, List, ◌∷◌, map, Bool, true, ◌&&◌, length, set, get_or, leb, eqb, Result, ℤ, pos, ◌*ℤ◌}
use Rattle.std.proofs.lemmas.List.Edits.{sets}
use Rattle.exact.specs.Size.{Within}
use Rattle.refusal.specs.Numbers.{Answer, answered, refused, as_answer}
use Rattle.refusal.specs.declared.Fault.{Fault}
use Rattle.number.specs.Read.{pick}
use Rattle.plane.specs.Length.{heading_length, Near}
use Rattle.job.specs.declared.Element.{Element}
use Rattle.job.specs.declared.Start.{Start}
use Rattle.job.specs.declared.Job.{Job}
use Rattle.job.specs.Allowed.{start_allowed, element_allowed}
use Rattle.job.specs.Empty.{empty_element}
use Rattle.job.specs.Faults.{judge}
use Rattle.path.specs.declared.Station.{Station}
use Rattle.path.specs.Stations.{steps_on, step_total, stations_from, stations}

-- the four runs of a path: positions and headings, one entry a station
pub record PathRuns : Type 0 where
  pub xs : List ℤ
  pub ys : List ℤ
  pub gxs : List ℤ
  pub gys : List ℤ

abbrev pub path_runs : List ℤ → List ℤ → List ℤ → List ℤ → PathRuns
path_runs a b c d = record { xs = a; ys = b; gxs = c; gys = d }

-- the station that entry i of the four runs holds
abbrev pub station_at : PathRuns → ℕ → Station
station_at r i = record {
  position = record { x = get_or r.xs i (pos 0); y = get_or r.ys i (pos 0) };
  heading = record { x = get_or r.gxs i (pos 0); y = get_or r.gys i (pos 0) };
}

-- what a path entry in use must be, or 26 is answered (01, "Why a walk is turned down")
pub record SoundStation (p : Station) : Type 0 where
  pub x : Within 150000000 p.position.x
  pub y : Within 150000000 p.position.y
  pub heading : Near p.heading heading_length (pos 2 *ℤ heading_length)

-- each run has room for n entries
abbrev pub room_for : ℕ → PathRuns → Bool
room_for n r = leb n (length r.xs) && (leb n (length r.ys) && (leb n (length r.gxs) && leb n (length r.gys)))

-- stations written from entry 0 on; the entries past the last stay
abbrev pub written : List Station → PathRuns → PathRuns
written ps r = record {
  xs = sets r.xs 0 (map (λ (p : Station). p.position.x) ps);
  ys = sets r.ys 0 (map (λ (p : Station). p.position.y) ps);
  gxs = sets r.gxs 0 (map (λ (p : Station). p.heading.x) ps);
  gys = sets r.gys 0 (map (λ (p : Station). p.heading.y) ps);
}

-- one station written
abbrev pub stored : ℕ → Station → PathRuns → PathRuns
stored i p r = record {
  xs = set r.xs i p.position.x;
  ys = set r.ys i p.position.y;
  gxs = set r.gxs i p.heading.x;
  gys = set r.gys i p.heading.y;
}

-- the answer: the job's first fault, then 21, then the number of stations laid
unfoldable pub lay_answer : Job → PathRuns → Answer ℕ
lay_answer j r =
    pick (eqb (judge j) 0)
    (pick (room_for (length (stations j)) r) (answered (length (stations j))) (refused 21))
    (refused (judge j))

-- what the runs hold afterwards: a refusal writes nothing
abbrev pub laid_runs : Answer ℕ → Job → PathRuns → PathRuns
laid_runs (answered n) j r = written (stations j) r
laid_runs (refused n) j r = r

pub record LayEnsures (j : Job) (before : PathRuns) (answer : Result ℕ Fault) (after : PathRuns) : Type 0 where
  pub answered : as_answer answer ≡ lay_answer j before
  pub runs : after ≡ laid_runs (lay_answer j before) j before

-- elements in use that the value test let pass
pub record Accepted (step : ℕ) (es : List Element) : Type 0 where
  pub least : 100 ≤ step
  pub most : step ≤ 20000
  pub places : length es ≤ 64
  pub allowed : (i : ℕ) → i < length es → element_allowed (get_or es i empty_element) ≡ true
  pub total : step_total step 0 es ≤ 2000

-- what writing a station asks
pub record Storable (i : ℕ) (p : Station) (r : PathRuns) : Type 0 where
  pub room : room_for (i + 1) r ≡ true
  pub station : SoundStation p

-- the start that a station is
abbrev pub start_at : Station → Start
start_at p = record { x = p.position.x; y = p.position.y; gx = p.heading.x; gy = p.heading.y }

-- what laying asks: elements that were let pass, as many steps as they have, a start that was let pass and room for every station
pub record Layable (step steps : ℕ) (es : List Element) (p : Station) (r : PathRuns) : Type 0 where
  pub accepted : Accepted step es
  pub counted : steps ≡ step_total step 0 es
  pub room : room_for (steps + 1) r ≡ true
  pub start : start_allowed (start_at p) ≡ true

-- the stations from a start, over elements
abbrev pub stations_over : ℕ → List Element → Station → List Station
stations_over step es p = p ∷ stations_from p (steps_on step es)
