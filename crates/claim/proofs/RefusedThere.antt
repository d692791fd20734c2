-- A run that is refused is so by its laying, or by placing over what was laid.
use Prim.Native.Nat.{ℕ, zero, suc}
use mathlib.Core.Path.{◌≡◌, refl, sym, ◌∙◌}
use mathlib.Core.Bool.{Bool, true, false, ◌&&◌, and-false}
use native.Mathlib.Omega.{arith}
use borrow.Author.Tests.{eqb-true}
use lib.Dec.{eqb}
use lib.ListN.{length}
use Rattle.refusal.specs.declared.Fault.TheVariants as F
use Rattle.number.specs.Read.{pick}
use Rattle.job.specs.Faults.{judge}
use Rattle.path.specs.Stations.{stations}
use Rattle.path.specs.Laying.{PathRuns, room_for, written}
use Rattle.path.proofs.JobLaws.{fault_answered, no_room_answered, laid_answered}
use Rattle.walk.specs.declared.Walk.{Walk}
use Rattle.walk.specs.Drawn.{Outcome, made, refused, refused_at}
use Rattle.walk.specs.Tests.{path_lent, reaches_lent, lent}
use Rattle.reaches.specs.Cells.{lengths_of}
use Rattle.stations.specs.Placing.{call_of, place_refusal}
use Rattle.stations.proofs.PlaceLaws.{place_refused}
use Rattle.run.specs.Ran.{Ran}
use Rattle.run.specs.Ran as R
use Rattle.run.specs.Walking.{Course}
use Rattle.run.specs.Run.{ran_by, ran_over, run_refusal, ran_answer, job_path, job_course}
use Rattle.claim.specs.WholeRun.{Run, Ensured}
use Rattle.claim.specs.PremisesMet.{RunRefused, not_laid, not_placed}
use Rattle.claim.proofs.FaultsNamed.{Named, none, named, judge_named}

-- the number answered is the refusal's
answered_by_lem : (m k : ℕ) (a b : Ran) → a ≡ ran_answer k b → a ≡ R.refused m → ((i : ℕ) → b ≡ R.refused i → ⊥) → (k ≡ m) × (m ≡ 0 → ⊥)
answered_by_lem m zero a b e h f = absurd (f m (sym e ∙ h))
answered_by_lem m (suc k) a b e h f = let z : suc k ≡ m = cc in (z, λ y. omega (arith, z, y))

never_refused : (asked : ℕ) (path : PathRuns) (c : Course) (i : ℕ) → ran_over asked path c ≡ R.refused i → ⊥
never_refused asked path c i = by c.answer
  where
    by : (o : Outcome) → ran_by asked path o c.state c.runs ≡ R.refused i → ⊥
    by made e = let z : ◌≡◌ {A = ℕ} 0 1 = cc in omega arith
    by (refused n) e = let z : ◌≡◌ {A = ℕ} 0 1 = cc in omega arith
    by (refused_at n u) e = let z : ◌≡◌ {A = ℕ} 0 1 = cc in omega arith

-- by the job's fault, or by 21 where a run of the path is too short, or one of the other three
module _ (x : Run) (w : Walk) where
  abbrev count : ℕ
  count = length (stations x.job)

  abbrev lay : PathRuns
  lay = written (stations x.job) x.path

  short_refused : reaches_lent count (lengths_of x.reaches) ≡ false → place_refusal x.job.vehicle (call_of count lay x.reaches) ≡ 21
  unfolding place_refusal lent
  short_refused e = rw (e, and-false (path_lent count lay)) refl

  fault_refused : (m : ℕ) → Named (judge x.job) → judge x.job ≡ m → (m ≡ 0 → ⊥) → RunRefused x w m
  fault_refused m (none z) e h = absurd (h (sym e ∙ z))
  fault_refused m (named f n) e h = not_laid f x.path (fault_answered x.job x.path f n (λ z. h (sym e ∙ z))) (n ∙ e)

  refused_by : (a b c : Bool) (m : ℕ) → eqb (judge x.job) 0 ≡ a → room_for count x.path ≡ b → reaches_lent count (lengths_of x.reaches) ≡ c
      → pick a (pick (b && c) 0 21) (judge x.job) ≡ m → (m ≡ 0 → ⊥) → RunRefused x w m
  refused_by false b c m f p r e h = fault_refused m (judge_named x.job) e h
  refused_by true false c m f p r e h =
      not_laid F.RunTooShort x.path (no_room_answered x.job x.path (eqb-true (judge x.job) 0 f) p) e
  refused_by true true false m f p r e h =
      not_placed count lay F.RunTooShort w x.reaches (laid_answered x.job x.path (eqb-true (judge x.job) 0 f) p)
      (place_refused x.job.vehicle w (call_of count lay x.reaches) x.reaches 21 (short_refused r) (λ z. omega arith)) e
  refused_by true true true m f p r e h = absurd (h (sym e))

  refused_so : (m : ℕ) → run_refusal x.job x.path x.reaches ≡ m → (m ≡ 0 → ⊥) → RunRefused x w m
  unfolding run_refusal
  refused_so m e h = refused_by (eqb (judge x.job) 0) (room_for count x.path) (reaches_lent count (lengths_of x.reaches)) m refl refl refl e h

pub run_refused_lem : (x : Run) → Ensured x → (m : ℕ) → x.answer ≡ R.refused m → (w : Walk) → RunRefused x w m
run_refused_lem x h m e w =
    let k = answered_by_lem m (run_refusal x.job x.path x.reaches) x.answer _ h.answered e (never_refused (length (stations x.job)) (job_path x.job x.path) (job_course x.job x.path x.reaches)) in
    refused_so x w m k.0 k.1
