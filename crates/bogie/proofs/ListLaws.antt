-- The list of a job: refused before any walk, or from the walks over the path that was laid.
use Prim.Native.Nat.{ℕ, zero, suc, ◌+◌, ◌-◌, ◌≤◌}
use mathlib.Core.Path.{◌≡◌, refl, sym, ◌∙◌, ap, subst, subst₂}
use mathlib.Core.Bool.{Bool, true, false, ◌&&◌}
use native.Mathlib.Omega.{arith}
use borrow.Author.Tests.{eq-eqb, ne_eqb, le-leb}
use lib.Dec.{eqb}
use lib.ListN.{length, take}
use Rattle.std.proofs.lemmas.Bool.{and_right}
use Rattle.number.specs.Read.{pick}
use Rattle.job.specs.declared.Job.{Job}
use Rattle.job.specs.Faults.{or_fault, first_of, judge}
use Rattle.job.proofs.FaultLaws.{first_of_lem, first_none, or_none}
use Rattle.std.specs.Prelude.{Ok, Err}
use Rattle.refusal.specs.declared.Fault.{Fault}
use Rattle.path.specs.Stations.{step_total, stations}
use Rattle.path.specs.Laying.{PathRuns, room_for, lay_answer, LayEnsures}
use Rattle.path.proofs.JobLaws.{stations_answered, stations_count}
use Rattle.walk.specs.Tests.{path_lent, reaches_lent}
use Rattle.reaches.specs.Cells.{Reaches, lengths_of}
use Rattle.stations.specs.Placing.{call_of}
use Rattle.run.specs.Run.{run_refusal, job_path}
use Rattle.run.proofs.RunLaws.{runnable, all_passed, tests_passed}
use Rattle.ranking.specs.Ranking.{Listed, refused}
use Rattle.bogie.specs.declared.Rail.{Rail}
use Rattle.bogie.specs.Settings.{rail_allowed}
use Rattle.bogie.specs.List.{list_refusal, ListEnsures}
use Rattle.bogie.specs.Walks.{runs_after, Walkable, WalkEnsures}
use Rattle.bogie.proofs.RailLaws.{in_limits}

-- the refusals, in their order
module _ (j : Job) (b : Rail) (p : PathRuns) (r : Reaches) where
  pub fault_first : (judge j ≡ 0 → ⊥) → judge j ≡ list_refusal j b p r
  unfolding list_refusal run_refusal
  fault_first h = let z = ne_eqb (judge j) 0 h in sym (rw z (first_of_lem (judge j) (or_fault (rail_allowed b) 29 0) h))

  module _ (f : judge j ≡ 0) where
    by_room : (x y : Bool) → (x && y) ≡ false → 21 ≡ first_of (pick (eqb (judge j) 0) (pick (x && y) 0 21) (judge j)) (or_fault (rail_allowed b) 29 0)
    by_room x y e = let z = eq-eqb (judge j) 0 f in rw (z, e) refl

    -- a path that is lent has room, since the job's stations are from 1 to 2,001
    pub path_short : 1 ≤ length (stations j) → length (stations j) ≤ 2001 → path_lent (length (stations j)) p ≡ false → 21 ≡ list_refusal j b p r
    unfolding list_refusal run_refusal
    path_short l m e =
        let n = length (stations j) in
        let least = le-leb 1 n l in
        let most = le-leb n 2001 m in
        let none : room_for n p ≡ false = rw (least, most) at e in
        by_room (room_for n p) (reaches_lent n (lengths_of r)) (rw none refl)

    pub reaches_short : reaches_lent (length (stations j)) (lengths_of r) ≡ false → 21 ≡ list_refusal j b p r
    unfolding list_refusal run_refusal
    reaches_short e = let n = length (stations j) in by_room (room_for n p) (reaches_lent n (lengths_of r)) (and_right (room_for n p) _ e)

    module _ (room : room_for (length (stations j)) p ≡ true) (lent : reaches_lent (length (stations j)) (lengths_of r) ≡ true) where
      pub rail_last : (t : Bool) → rail_allowed b ≡ t → or_fault t 29 0 ≡ list_refusal j b p r
      unfolding list_refusal
      rail_last t e = let z = all_passed j p r f room lent in rw (z, e) refl

  -- of a job without a fault, by what is tested of the stations that its elements are cut into
  pub tests_left : (m : ℕ) (q : PathRuns) (s t : Bool) → judge j ≡ 0 → m ≡ step_total j.step 0 (take j.count j.elements) → m ≤ 2000 → q ≡ p
      → s ≡ path_lent (m + 1) q → t ≡ reaches_lent (m + 1) (lengths_of r) → first_of (pick (s && t) 0 21) (or_fault (rail_allowed b) 29 0) ≡ list_refusal j b p r
  unfolding list_refusal run_refusal
  tests_left m q s t f e l k x y =
      let z = eq-eqb (judge j) 0 f in
      let n : length (stations j) ≡ m + 1 = stations_count j ∙ ap (λ (i : ℕ). i + 1) (sym e) in
      let least = le-leb 1 (m + 1) (omega arith) in
      let most = le-leb (m + 1) 2001 (omega arith) in
      let lent : s ≡ path_lent (m + 1) p = x ∙ ap (path_lent (m + 1)) k in
      rw (z, n, lent, y, least, most) refl

-- 0: nothing was refused
pub record Passed (j : Job) (b : Rail) (p : PathRuns) (r : Reaches) : Type 0 where
  pub fault : judge j ≡ 0
  pub room : room_for (length (stations j)) p ≡ true
  pub lent : reaches_lent (length (stations j)) (lengths_of r) ≡ true
  pub rail : rail_allowed b ≡ true

pub all_tests : (j : Job) (b : Rail) (p : PathRuns) (r : Reaches) → list_refusal j b p r ≡ 0 → Passed j b p r
unfolding list_refusal
all_tests j b p r e =
    let a = first_none (run_refusal j p r) (or_fault (rail_allowed b) 29 0) e in
    let k = tests_passed j p r a.0 in
    record { fault = k.0; room = k.1; lent = k.2; rail = (or_none (rail_allowed b) 28 0 a.1).0 }

-- a refusal writes nothing
pub refused_list : (j : Job) (b : Rail) (p : PathRuns) (r : Reaches) (n : ℕ) → n ≡ list_refusal j b p r → (n ≡ 0 → ⊥) → ListEnsures j b p r (refused n) p r
refused_list j b p r zero e h = absurd (h refl)
refused_list j b p r (suc n) e h = record { answered = rw (sym e) refl; path = rw (sym e) refl; reaches = rw (sym e) refl }

-- a job that passed is laid
module _ (j : Job) (b : Rail) (p : PathRuns) (r : Reaches) (none : list_refusal j b p r ≡ 0) where
  pub not_refused : (f : Fault) (q : PathRuns) → LayEnsures j p (Err f) q → ⊥
  unfolding lay_answer
  not_refused f q t =
      let k = all_tests j b p r none in
      let z = eq-eqb (judge j) 0 k.fault in
      let e = rw (z, k.room) at t.answered in
      cc

  module _ (m : ℕ) (q : PathRuns) (t : LayEnsures j p (Ok m) q) where
    pub laid_walkable : Walkable j.vehicle b (call_of m q r)
    laid_walkable =
        let k = all_tests j b p r none in
        let y = runnable j p m q t r (subst (λ (x : ℕ). reaches_lent x (lengths_of r) ≡ true) (sym (stations_answered j p m q t).2) k.lent) in
        record { lent = y.lent; path = y.path; vehicle = y.vehicle; rail = k.rail }

    own_path : (l : Listed) (after : Reaches) → WalkEnsures (length (stations j)) (job_path j p) j.vehicle b r l after → ListEnsures j b p r l (job_path j p) after
    unfolding stations
    own_path l after w =
        let k = in_limits b (all_tests j b p r none).rail in
        let e : b.number ≡ suc (b.number - 1) = omega (arith, k.least) in
        record {
          answered = rw none w.listed;
          path = rw none refl;
          reaches = rw none (w.runs ∙ ap (runs_after (length (stations j)) (job_path j p) j.vehicle b r) e);
        }

    pub walked_list : (l : Listed) (after : Reaches) → WalkEnsures m q j.vehicle b r l after → ListEnsures j b p r l q after
    walked_list l after w =
        let s = stations_answered j p m q t in
        subst (λ (x : PathRuns). ListEnsures j b p r l x after) (sym s.3) (own_path l after (subst₂ (λ (k : ℕ) (x : PathRuns). WalkEnsures k x j.vehicle b r l after) s.2 s.3 w))
