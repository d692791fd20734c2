-- The claim about the list (02, N1: "Demand 2 now covers this list"), over what `list_settings` and `run::run` ensure.
use Rattle.std.specs.Prelude.{ℕ, ◌+◌, ◌*◌, ◌≤◌, ◌<◌, ◌≡◌, length, ℤ, Some}
use Rattle.job.specs.declared.Job.{Job}
use Rattle.path.specs.Laying.{PathRuns}
use Rattle.reaches.specs.Cells.{Reaches}
use Rattle.reaches.specs.declared.Place.{Place}
use Rattle.run.specs.declared.Finish.{Finish}
use Rattle.run.specs.Ran.{Ran}
use Rattle.run.specs.Ran as R
use Rattle.run.specs.Run.{run_refusal, RunEnsures}
use Rattle.ranking.specs.declared.Setting.{Setting}
use Rattle.ranking.specs.Ranking.{Listed, settings_in}
use Rattle.ranking.specs.Ranking as L
use Rattle.ranking.specs.Best.{InOrder, Among, ListedOrBeaten}
use Rattle.bogie.specs.declared.Rail.{Rail}
use Rattle.bogie.specs.Settings.{setting_at, job_set}
use Rattle.bogie.specs.List.{ListEnsures}

-- the limits: "a pitch of at least one tick", "1 to 32 settings", and each setting a wheelbase, in exact numbers
pub record InLimits (b : Rail) : Type 0 where
  pub pitch : 1 ≤ b.pitch
  pub least : 1 ≤ b.number
  pub most : b.number ≤ 32
  pub settings : (i : ℕ) → i < b.number → (5000 ≤ b.lowest + i * b.pitch) × (b.lowest + i * b.pitch ≤ 200000)

-- the job is walked: no fault of its own, no run too short, no limit passed
pub record Walked (j : Job) (b : Rail) (p : PathRuns) (r : Reaches) : Type 0 where
  pub run : run_refusal j p r ≡ 0
  pub limits : InLimits b

-- "all that reach the last station with a complete station": finished, with a widest place of this width
pub record Reached (a : Ran) (width : ℤ) : Type 0 where
  pub finish : Finish
  pub place : Place
  pub finished : a ≡ R.finished finish
  pub widest : finish.widest ≡ Some place
  pub of : place.width ≡ width

-- whatever a run of the job with this last wheelbase, on the runs handed in, answers, it is that
abbrev pub RunReaches : Job → PathRuns → Reaches → ℕ → ℤ → Type 0
RunReaches j p r w width = (a : Ran) (p' : PathRuns) (r' : Reaches) → RunEnsures (job_set j w) p r a p' r' → Reached a width

-- a listed setting is one of the rail's, and its run is finished with a widest place of its width
pub record IsSetting (j : Job) (b : Rail) (p : PathRuns) (r : Reaches) (s : Setting) : Type 0 where
  pub index : ℕ
  pub inside : index < b.number
  pub wheelbase : s.wheelbase ≡ setting_at b index
  pub run : RunReaches j p r s.wheelbase s.width

-- no setting's run is finished with a complete station
abbrev pub NoneReaches : Job → Rail → PathRuns → Reaches → Type 0
NoneReaches j b p r = (i : ℕ) (width : ℤ) → i < b.number → RunReaches j p r (setting_at b i) width → ⊥

-- a refusal that has written nothing
abbrev pub Unwritten : ℕ → PathRuns → Reaches → Listed → PathRuns → Reaches → Type 0
Unwritten n p r answer p' r' = (answer ≡ L.refused n) × ((p' ≡ p) × (r' ≡ r))

-- what is claimed of a list handed back
pub record BestOf (j : Job) (b : Rail) (p : PathRuns) (r : Reaches) (answer : Listed) (p' : PathRuns) (r' : Reaches) : Type 0 where
  pub settings : (s : Setting) → Among s (settings_in answer) → IsSetting j b p r s
  pub three : length (settings_in answer) ≤ 3
  pub ordered : InOrder (settings_in answer)
  -- nothing better is left out: a setting whose run is finished with a complete station is listed, or beaten by three that are
  pub all : Walked j b p r → (i : ℕ) (width : ℤ) → i < b.number → RunReaches j p r (setting_at b i) width → ListedOrBeaten (record { wheelbase = setting_at b i; width = width }) (settings_in answer)
  -- "with 30 exactly when there is none to list"
  pub none : answer ≡ L.refused 30 → Walked j b p r × NoneReaches j b p r
  pub only : Walked j b p r → NoneReaches j b p r → answer ≡ L.refused 30
  -- "Afterwards, 30 included, ... the lent runs hold the last setting's walk as far as it went": all seven are as a run of it leaves them
  pub runs : Walked j b p r → (i : ℕ) → i + 1 ≡ b.number → (a : Ran) (q : PathRuns) (s : Reaches) → RunEnsures (job_set j (setting_at b i)) p r a q s → (p' ≡ q) × (r' ≡ s)
  -- "After the job's own faults and 21", which `run` tells alike, "it refuses with 29, before any walk, for a pitch, a count or a setting outside the limits"
  pub before : (run_refusal j p r ≡ 0 → ⊥) → Unwritten (run_refusal j p r) p r answer p' r'
  pub outside : run_refusal j p r ≡ 0 → (InLimits b → ⊥) → Unwritten 29 p r answer p' r'

-- the claim
abbrev pub BestSettings : Type 0
BestSettings = (j : Job) (b : Rail) (p : PathRuns) (r : Reaches) (answer : Listed) (p' : PathRuns) (r' : Reaches)
    → ListEnsures j b p r answer p' r' → BestOf j b p r answer p' r'
