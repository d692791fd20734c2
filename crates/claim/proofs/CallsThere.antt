-- A run that is not refused has its calls: the path laid, the vehicle placed, and step calls until one is refused.
use Prim.Native.Nat.{ℕ, zero, suc, ◌+◌, ◌-◌, ◌≤◌, ◌<◌}
use mathlib.Core.Path.{◌≡◌, refl, sym, ◌∙◌}
use mathlib.Core.List.{List, [], ◌∷◌}
use native.Mathlib.Omega.{arith}
use native.Mathlib.Decide.{dec_lt}
use lib.ListN.{length}
use Rattle.std.specs.Prelude.{Ok}
use Rattle.path.specs.Stations.{stations}
use Rattle.path.specs.Laying.{PathRuns, written, LayEnsures}
use Rattle.path.proofs.JobLaws.{laid_answered}
use Rattle.walk.specs.declared.Walk.{Walk}
use Rattle.walk.specs.Drawn.{view, Call, Outcome, made, refused, refused_at}
use Rattle.walk.specs.Rig.{drawn_start}
use Rattle.reaches.specs.Cells.{Reaches, cleared}
use Rattle.stations.specs.Placing as P
use Rattle.stations.specs.Placing.{call_of, place_refusal, start_heading}
use Rattle.stations.specs.Stepping.{if_made, StepEnsures}
use Rattle.stations.proofs.PlaceLaws.{place_done}
use Rattle.stations.proofs.StepLaws.{refused_not_made, unit_not_made}
use Rattle.run.specs.Ran.{Ran}
use Rattle.run.specs.Ran as R
use Rattle.run.specs.Walking.{Going}
use Rattle.run.specs.Run.{run_refusal, ran_answer, Runnable}
use Rattle.run.proofs.WalkingLaws.{one_on, still_going}
use Rattle.run.proofs.OverLaws.{placed_going}
use Rattle.run.proofs.RunLaws.{runnable, tests_passed}
use Rattle.claim.specs.DemandThree.{Turn, Chain}
use Rattle.claim.specs.WholeRun.{Handed, UntilRefused, Run, Ensured}
use Rattle.claim.specs.PremisesMet.{RunCalls}
use Rattle.claim.proofs.RunFollows.{refused_25}
use Rattle.claim.proofs.CallsMade.{record_of, turn_of, turn_ensured}

-- step calls over one path, each handed the runs that the one before left, until one is refused or n are made; then one more
module _ (asked : ℕ) (path : PathRuns) where
  abbrev next : Walk → Reaches → Turn
  next w r = turn_of w (call_of asked path r) r

  unfoldable pub turns_until : ℕ → Walk → Reaches → List Turn
  turns_until zero w r = next w r ∷ []
  turns_until (suc n) w r = if_made (next w r).result.answer (next w r ∷ turns_until n (next w r).result.walk (next w r).after) (next w r ∷ [])

  -- both ways that it goes on
  pub by_answer : (P : List Turn → Type 0) (o : Outcome) (a b : List Turn) → (o ≡ made → P a) → ((o ≡ made → ⊥) → P b) → P (if_made o a b)
  by_answer P made a b h k = h refl
  by_answer P (refused m) a b h k = k (refused_not_made m)
  by_answer P (refused_at m u) a b h k = k (unit_not_made m u)

  pub until_chain : (n : ℕ) (w : Walk) (r : Reaches) → Chain w (turns_until n w r)
  unfolding turns_until Chain
  until_chain zero w r = (turn_ensured w (call_of asked path r) r, tt)
  until_chain (suc n) w r =
      let t = next w r in
      let k = turn_ensured w (call_of asked path r) r in
      by_answer (Chain w) t.result.answer (t ∷ turns_until n t.result.walk t.after) (t ∷ []) (λ m. (k, until_chain n t.result.walk t.after)) (λ m. (k, tt))

  pub until_handed : (n : ℕ) (w : Walk) (r : Reaches) → Handed asked path r (turns_until n w r)
  unfolding turns_until Handed
  until_handed zero w r = (refl, refl, tt)
  until_handed (suc n) w r =
      let t = next w r in
      by_answer (Handed asked path r) t.result.answer (t ∷ turns_until n t.result.walk t.after) (t ∷ []) (λ m. (refl, refl, until_handed n t.result.walk t.after)) (λ m. (refl, refl, tt))

  -- a made call before others
  made_before : (t : Turn) (ts : List Turn) → t.result.answer ≡ made → UntilRefused ts → UntilRefused (t ∷ ts)
  unfolding UntilRefused
  made_before t [] m h = absurd h
  made_before t (u ∷ ts) m h = (m, h)

  pub until_refused : (n : ℕ) (w : Walk) (r : Reaches) → Going (view w) (call_of asked path r) → asked ≤ w.station + 1 + n → UntilRefused (turns_until n w r)
  unfolding turns_until UntilRefused
  until_refused zero w r g h = λ m. refused_not_made 25 (sym (refused_25 asked path w r g (next w r) (turn_ensured w (call_of asked path r) r) (omega arith)) ∙ m)
  until_refused (suc n) w r g h =
      let t = next w r in
      let k = turn_ensured w (call_of asked path r) r in
      by_answer UntilRefused t.result.answer (t ∷ turns_until n t.result.walk t.after) (t ∷ [])
      (λ m.
      let l = short g k m (dec_lt (w.station + 1) asked) in
      let e = one_on asked path w r t.result t.after l k m g in
      made_before t (turns_until n t.result.walk t.after) m (until_refused n t.result.walk t.after (still_going asked path w r t.result t.after l k m g) (omega arith)))
      (λ m. m)
    where
      short : Going (view w) (call_of asked path r) → StepEnsures w (call_of asked path r) r (next w r).result (next w r).after → (next w r).result.answer ≡ made → Dec (w.station + 1 < asked) → w.station + 1 < asked
      short g k m (yes l) = l
      short g k m (no f) = absurd (refused_not_made 25 (sym (refused_25 asked path w r g (next w r) k (omega arith)) ∙ m))

-- a run that is not refused: the job has no fault and all seven runs have room
pub no_refusal : (a b : Ran) (m : ℕ) → a ≡ ran_answer m b → ((k : ℕ) → a ≡ R.refused k → ⊥) → m ≡ 0
no_refusal a b zero e f = refl
no_refusal a b (suc m) e f = absurd (f (suc m) e)

module _ (x : Run) where
  abbrev n : ℕ
  n = length (stations x.job)

  abbrev laid : PathRuns
  laid = written (stations x.job) x.path

  abbrev call : Call
  call = call_of n laid x.reaches

  -- the record at the start, and the calls from there
  abbrev start : Walk
  start = record_of (drawn_start x.job.vehicle (start_heading call))

  abbrev pub turns_there : List Turn
  turns_there = turns_until n laid (n - 1) start (cleared n x.reaches)

  module _ (w : Walk) (none : run_refusal x.job x.path x.reaches ≡ 0) where
    is_laid : LayEnsures x.job x.path (Ok n) laid
    is_laid = let k = tests_passed x.job x.path x.reaches none in laid_answered x.job x.path k.0 k.1

    can_run : Runnable x.job.vehicle call
    can_run = runnable x.job x.path n laid is_laid x.reaches (tests_passed x.job x.path x.reaches none).2

    placed_so : place_refusal x.job.vehicle call ≡ 0
    unfolding place_refusal
    placed_so = let y = can_run in rw (y.lent, y.path, y.vehicle) refl

    going : Going (view start) (call_of n laid (cleared n x.reaches))
    going = placed_going n laid x.job.vehicle x.reaches can_run start (cleared n x.reaches) refl refl

    pub calls_there : RunCalls x w
    calls_there = record {
      n = n;
      path = laid;
      laid = is_laid;
      placing = record { answer = P.placed; walk = start };
      after = cleared n x.reaches;
      ensured = place_done x.job.vehicle w call x.reaches start (cleared n x.reaches) placed_so refl refl;
      placed = refl;
      turns = turns_there;
      chain = until_chain n laid (n - 1) start (cleared n x.reaches);
      handed = until_handed n laid (n - 1) start (cleared n x.reaches);
      until = until_refused n laid (n - 1) start (cleared n x.reaches) going (omega arith);
    }

    pub turns_are : calls_there.turns ≡ turns_there
    unfolding calls_there
    turns_are = refl

pub run_calls_lem : (x : Run) → Ensured x → ((m : ℕ) → x.answer ≡ R.refused m → ⊥) → (w : Walk) → RunCalls x w
run_calls_lem x h f w = calls_there x w (no_refusal x.answer _ (run_refusal x.job x.path x.reaches) h.answered f)
