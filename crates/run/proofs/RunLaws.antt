-- The answers of a whole job: a fault, a run too short, and a walk over the path that was laid.
use Prim.Native.Nat.{ℕ, zero, suc, ◌<◌}
use mathlib.Core.Path.{◌≡◌, refl, sym, ◌∙◌, ap, subst, subst₂}
use mathlib.Core.Bool.{Bool, true, false, ◌&&◌}
use native.Mathlib.Omega.{arith}
use borrow.Author.Tests.{eq-eqb, ne_eqb, eqb-true, le-leb}
use lib.Dec.{eqb}
use lib.ListN.{length}
use Rattle.std.proofs.lemmas.Bool.{and_from}
use Rattle.number.specs.Read.{pick}
use Rattle.job.specs.declared.Job.{Job}
use Rattle.job.specs.Faults.{judge, vehicle_fault}
use Rattle.job.proofs.FaultLaws.{sound}
use Rattle.path.specs.declared.Station.{Station}
use Rattle.std.specs.Prelude.{Ok, Err}
use Rattle.refusal.specs.Numbers.{Answer, answered, refused as refused_by_number, number_of}
use Rattle.refusal.specs.declared.Fault.{Fault}
use Rattle.path.specs.Stations.{stations}
use Rattle.path.specs.Laying.{PathRuns, room_for, written, lay_answer, laid_runs, LayEnsures}
use Rattle.path.specs.LaidPath.{job_station}
use Rattle.path.proofs.JobLaws.{stations_answered, stations_count}
use Rattle.path.proofs.LayLaws.{room_for_fewer}
use Rattle.path.proofs.EntryLaws.{written_lengths, path_in_runs}
use Rattle.path.proofs.SoundLaws.{sound_path}
use Rattle.walk.specs.Drawn.{station_at}
use Rattle.walk.specs.Tests.{lent, reaches_lent, station_sound, vehicle_sound}
use Rattle.walk.proofs.PathTests.{passes, all_sound}
use Rattle.reaches.specs.Cells.{Reaches, lengths_of}
use Rattle.stations.specs.Placing.{call_of, unless_refused}
use Rattle.run.specs.Ran.{Ran}
use Rattle.run.specs.Ran as R
use Rattle.run.specs.Walking.{Course}
use Rattle.run.specs.Run.{ran_over, walk_over, run_refusal, ran_answer, job_path, job_course, RunEnsures, Runnable, OverEnsures}

-- refused: nothing is written
refused_by : (j : Job) (p : PathRuns) (r : Reaches) (n : ℕ) → run_refusal j p r ≡ suc n → RunEnsures j p r (R.refused (suc n)) p r
refused_by j p r n e = record { answered = rw e refl; path = rw e refl; reaches = rw e refl }

refused_so : (j : Job) (p : PathRuns) (r : Reaches) (n : ℕ) → run_refusal j p r ≡ n → (n ≡ 0 → ⊥) → RunEnsures j p r (R.refused n) p r
refused_so j p r zero e h = absurd (h refl)
refused_so j p r (suc n) e h = refused_by j p r n e

module _ (j : Job) (p : PathRuns) (r : Reaches) where
  abbrev n : ℕ
  n = length (stations j)

  pub run_fault : (judge j ≡ 0 → ⊥) → RunEnsures j p r (R.refused (judge j)) p r
  unfolding run_refusal
  run_fault h = refused_so j p r (judge j) (let e = ne_eqb (judge j) 0 h in rw e refl) h

  no_room : (a b : Bool) → (a ≡ true → b ≡ true → ⊥) → ◌≡◌ {A = ℕ} (pick (a && b) 0 21) 21
  no_room true true h = absurd (h refl refl)
  no_room true false h = refl
  no_room false b h = refl

  module _ (f : judge j ≡ 0) where
    refused_21 : (room_for n p ≡ true → reaches_lent n (lengths_of r) ≡ true → ⊥) → RunEnsures j p r (R.refused 21) p r
    unfolding run_refusal
    refused_21 h =
        let z = eq-eqb (judge j) 0 f in
        refused_by j p r 20 (rw z (no_room (room_for n p) (reaches_lent n (lengths_of r)) h))

    true_false : {b : Bool} → b ≡ true → b ≡ false → ⊥
    true_false t e = let z : true ≡ false = sym t ∙ e in absurd (let y : ◌≡◌ {A = ℕ} 0 1 = cc in omega arith)

    pub reaches_short : reaches_lent n (lengths_of r) ≡ false → RunEnsures j p r (R.refused 21) p r
    reaches_short e = refused_21 (λ a b. true_false b e)

    -- laying refuses a job without a fault by 21 alone
    laid_by : (a b : Bool) (m k : ℕ) → a ≡ true → refused_by_number m ≡ pick a (pick b (answered k) (refused_by_number 21)) (refused_by_number (judge j)) → (m ≡ 21) × (b ≡ false)
    laid_by true true m k t e = absurd (let z : ◌≡◌ {A = ℕ} 0 1 = cc in omega arith)
    laid_by true false m k t e = (cc, refl)
    laid_by false b m k t e = absurd (let z : ◌≡◌ {A = ℕ} 0 1 = cc in omega arith)

    pub path_short : (fault : Fault) (q : PathRuns) → LayEnsures j p (Err fault) q → RunEnsures j p r (R.refused (number_of fault)) q r
    unfolding lay_answer
    path_short fault q t =
        let s = laid_by (eqb (judge j) 0) (room_for n p) (number_of fault) n (eq-eqb (judge j) 0 f) t.answered in
        let kept : q ≡ p = t.runs ∙ ap (λ (a : Answer ℕ). laid_runs a j p) (sym t.answered) in
        subst₂ (λ (k : ℕ) (x : PathRuns). RunEnsures j p r (R.refused k) x r) (sym s.0) (sym kept) (refused_21 (λ a b. true_false a s.1))

pub all_passed : (j : Job) (p : PathRuns) (r : Reaches) → judge j ≡ 0 → room_for (length (stations j)) p ≡ true → reaches_lent (length (stations j)) (lengths_of r) ≡ true → run_refusal j p r ≡ 0
unfolding run_refusal
all_passed j p r a b d = let z = eq-eqb (judge j) 0 a in rw (z, b, d) refl

passed_by : (a b c : Bool) (f : ℕ) → eqb f 0 ≡ a → pick a (pick (b && c) 0 21) f ≡ 0 → (f ≡ 0) × (b ≡ true) × (c ≡ true)
passed_by true true true f t e = (eqb-true f 0 t, refl, refl)
passed_by true true false f t e = absurd (omega arith)
passed_by true false c f t e = absurd (omega arith)
passed_by false b c f t e = absurd (let z : true ≡ false = sym (eq-eqb f 0 e) ∙ t in let y : ◌≡◌ {A = ℕ} 0 1 = cc in omega arith)

-- and the other way round
pub tests_passed : (j : Job) (p : PathRuns) (r : Reaches) → run_refusal j p r ≡ 0 → (judge j ≡ 0) × (room_for (length (stations j)) p ≡ true) × (reaches_lent (length (stations j)) (lengths_of r) ≡ true)
unfolding run_refusal
tests_passed j p r e = let n = length (stations j) in passed_by (eqb (judge j) 0) (room_for n p) (reaches_lent n (lengths_of r)) (judge j) refl e

-- the path that was laid is sound, and the vehicle was tested with its job
module _ (j : Job) (p : PathRuns) (m : ℕ) (q : PathRuns) (t : LayEnsures j p (Ok m) q) where
  pub laid_station : (i : ℕ) → i < m → station_sound (station_at q i) ≡ true
  laid_station i h =
      let k = path_in_runs j p m q t in
      let s = (sound_path j k.accepted).sound i (omega (arith, k.count)) in
      subst (λ (z : Station). station_sound z ≡ true) (sym (k.entries i h)) (passes (job_station j i) s)

  job_vehicle : vehicle_sound j.vehicle ≡ true
  unfolding vehicle_sound
  job_vehicle = eq-eqb (vehicle_fault j.vehicle) 0 (sound j (stations_answered j p m q t).0).vehicle

  laid_room : room_for m q ≡ true
  laid_room =
      let s = stations_answered j p m q t in
      rw s.3 (room_for_fewer m (length (stations j)) (written (stations j) p) p (written_lengths (stations j) p) (omega (arith, s.2)) s.1)

  pub runnable : (r : Reaches) → reaches_lent m (lengths_of r) ≡ true → Runnable j.vehicle (call_of m q r)
  unfolding lent
  runnable r e =
      let s = stations_answered j p m q t in
      let k = sound_path j s.0 in
      let least = le-leb 1 m (omega (arith, s.2, stations_count j)) in
      let most = le-leb m 2001 (omega (arith, s.2, k.most)) in
      record { lent = and_from _ _ (and_from _ _ (and_from _ _ least most) laid_room) e; path = all_sound q m laid_station; vehicle = job_vehicle }

  -- the whole job, from a walk over the path that was laid
  pub run_done : (r : Reaches) (answer : Ran) (after : Reaches) → reaches_lent m (lengths_of r) ≡ true → OverEnsures m q j.vehicle r answer after → RunEnsures j p r answer q after
  run_done r answer after e o =
      let s = stations_answered j p m q t in
      let zero-refusal = all_passed j p r s.0 s.1 (subst (λ (k : ℕ). reaches_lent k (lengths_of r) ≡ true) s.2 e) in
      let f : ℕ → PathRuns → Course = λ k x. walk_over k x j.vehicle r in
      let whole : f m q ≡ job_course j p r = ap (λ (k : ℕ). f k q) s.2 ∙ ap (f (length (stations j))) s.3 in
      record {
        answered =
            o.answered ∙ ap (λ (k : ℕ). ran_over k q (f m q)) s.2 ∙ ap (λ (x : PathRuns). ran_over (length (stations j)) x (f m q)) s.3 ∙ ap (ran_over (length (stations j)) (job_path j p)) whole
            ∙ ap (λ (k : ℕ). ran_answer k (ran_over (length (stations j)) (job_path j p) (job_course j p r))) (sym zero-refusal);
        path = s.3 ∙ ap (λ (k : ℕ). unless_refused k (job_path j p) p) (sym zero-refusal);
        reaches = o.reaches ∙ ap (λ (c : Course). c.runs) whole ∙ ap (λ (k : ℕ). unless_refused k (job_course j p r).runs r) (sym zero-refusal);
      }
