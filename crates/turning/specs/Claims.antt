-- The claim about the functions open to C and Rust, over what each ensures.
use Rattle.std.specs.Prelude.{ℕ, ◌≤◌, ◌≡◌, List, ℤ}
use Rattle.refusal.specs.Numbers.{Answer}
use Rattle.plane.specs.declared.Vec2.{Vec2}
use Rattle.heading.specs.declared.Advance.{Advance}
use Rattle.path.specs.Laying.{PathRuns}
use Rattle.reaches.specs.Cells.{Reaches}
use Rattle.bogie.specs.declared.Rail.{Rail}
use Rattle.kerb_line.specs.Kerb.{KerbRuns}
use Rattle.answer_run.specs.Answers.{Answered}
use Rattle.answer_run.specs.Turns.{path_told, unit_told}
use Rattle.turning.specs.Calls.{number_in, SweepCalled, RunCalled}
use Rattle.turning.specs.Settings.{SettingsCalled}
use Rattle.turning.specs.Kerbs.{TicksCalled, TouchCalled}

-- refused before the walk begins: the job by 1 to 10, or a run too short by 21
abbrev pub BeforeWalk : ℕ → Type 0
BeforeWalk a = number_in a ≤ 21

-- a list refused before any walk: the job by 1 to 10, a run too short by 21, the rail by 29
abbrev pub BeforeWalks : ℕ → Type 0
BeforeWalks a = number_in a ≤ 29

-- "nothing is written" (01, "Why a job is turned down")
pub record RefusalWritesNothing : Type 0 where
  -- the answer run is written on 0 alone
  pub sweep : (s : List ℕ) (before : List ℤ) (a : ℕ) (after : List ℤ) → SweepCalled s before a after → (a ≡ 0 → ⊥) → after ≡ before
  pub run : (s : List ℕ) (p : PathRuns) (r : Reaches) (before : List ℤ) (a : ℕ) (p' : PathRuns) (r' : Reaches) (after : List ℤ)
      → RunCalled s p r before a p' r' after → (a ≡ 0 → ⊥) → after ≡ before
  pub path_turn_lem : (t : Answer Advance) (before : List ℤ) (n : ℕ) (after : List ℤ) → Answered 4 (path_told t) before n after → (n ≡ 0 → ⊥) → after ≡ before
  pub unit_turn_lem : (t : Answer Vec2) (before : List ℤ) (n : ℕ) (after : List ℤ) → Answered 2 (unit_told t) before n after → (n ≡ 0 → ⊥) → after ≡ before
  -- and none of the seven runs where it is refused before the walk begins
  pub seven_runs : (s : List ℕ) (p : PathRuns) (r : Reaches) (before : List ℤ) (a : ℕ) (p' : PathRuns) (r' : Reaches) (after : List ℤ)
      → RunCalled s p r before a p' r' after → (a ≡ 0 → ⊥) → BeforeWalk a → (p' ≡ p) × (r' ≡ r)
  -- a list's answer run likewise
  pub settings : (s : List ℕ) (b : Rail) (p : PathRuns) (r : Reaches) (before : List ℤ) (a : ℕ) (p' : PathRuns) (r' : Reaches) (after : List ℤ)
      → SettingsCalled s b p r before a p' r' after → (a ≡ 0 → ⊥) → after ≡ before
  -- and none of its seven runs where it is refused before any walk; on 30 they hold the last walk (02, N1: "30 included despite demand 1")
  pub settings_runs : (s : List ℕ) (b : Rail) (p : PathRuns) (r : Reaches) (before : List ℤ) (a : ℕ) (p' : PathRuns) (r' : Reaches) (after : List ℤ)
      → SettingsCalled s b p r before a p' r' after → (a ≡ 0 → ⊥) → BeforeWalks a → (p' ≡ p) × (r' ≡ r)
  -- a kerb that is not read leaves the answer run and both runs of ticks, and a report that is refused its answer run
  pub kerb_ticks : (g : List ℕ) (k : KerbRuns) (before : List ℤ) (a : ℕ) (k' : KerbRuns) (after : List ℤ) → TicksCalled g k before a k' after → (a ≡ 0 → ⊥) → (after ≡ before) × (k' ≡ k)
  pub kerb_touch : (s : List ℕ) (n : ℕ) (k : KerbRuns) (before : List ℤ) (a : ℕ) (after : List ℤ) → TouchCalled s n k before a after → (a ≡ 0 → ⊥) → after ≡ before
