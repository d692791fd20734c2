-- A job without a fault can be laid; and the three answers of laying.
use Prim.Native.Nat.{ℕ, suc, ◌+◌, ◌≤◌}
use mathlib.Core.Path.{◌≡◌, refl, sym, ◌∙◌, ap}
use mathlib.Core.Bool.{Bool, true, false, ◌&&◌}
use mathlib.Core.List.{List, [], ◌∷◌}
use native.Mathlib.Omega.{arith}
use borrow.Author.Tests.{leb-true, eq-eqb, ne_eqb, eqb-true}
use lib.Dec.{leb, eqb}
use lib.ListN.{length, take, get_or, length-take}
use Rattle.std.proofs.lemmas.Bool.{and_parts}
use Rattle.std.specs.Prelude.{Ok, Err}
use lib.IntN.{pos, nat_abs, ◌*ℤ◌}
use Rattle.exact.specs.Size.{Within}
use Rattle.number.specs.Read.{pick}
use Rattle.plane.specs.Length.{heading_length, Near}
use Rattle.plane.proofs.Lengths.{near_of}
use Rattle.job.specs.declared.Element.{Element}
use Rattle.job.specs.declared.Start.{Start}
use Rattle.job.specs.declared.Job.{Job}
use Rattle.job.specs.Allowed.{element_allowed, heading_allowed, coordinate_allowed, start_allowed}
use Rattle.job.specs.Steps.{tally, steps_allowed}
use Rattle.job.specs.Empty.{empty_element}
use Rattle.job.specs.Faults.{judge, fault_of, element_fault, total_fault, elements_fault}
use Rattle.job.proofs.FaultLaws.{sound, or_none, first_none, fault_at}
use Rattle.path.specs.declared.Station.{Station}
use Rattle.refusal.specs.Numbers.{Answer, answered, refused, number_of}
use Rattle.refusal.specs.declared.Fault.{Fault}
use Rattle.refusal.specs.declared.Fault.TheVariants as F
use Rattle.path.specs.Stations.{Step, steps_on, step_total, start_station, next_station, stations_from, stations}
use Rattle.path.specs.Laying.{PathRuns, room_for, written, lay_answer, laid_runs, LayEnsures, Accepted}
use Rattle.path.proofs.TotalLaws.{total_count}

-- the total is tested after all elements
pub total_allowed : (step t : ℕ) (es : List Element) → fault_of element_fault (tally step) total_fault t es ≡ 0 → step_total step t es ≤ 2000
unfolding fault_of step_total
total_allowed step t [] h = leb-true t 2000 (or_none (steps_allowed t) 8 0 h).0
total_allowed step t (e ∷ es) h = total_allowed step (tally step t e) es (first_none (element_fault t e) (fault_of element_fault (tally step) total_fault (tally step t e) es) h).1

pub accepted : (j : Job) → length j.elements ≡ 64 → judge j ≡ 0 → Accepted j.step (take j.count j.elements)
unfolding elements_fault
accepted j n h =
    let s = sound j h in
    let es = take j.count j.elements in
    let step = and_parts (leb 100 j.step) (leb j.step 20000) s.step in
    record {
      least = leb-true 100 j.step step.0;
      most = leb-true j.step 20000 step.1;
      places = omega (arith, length-take j.count j.elements);
      allowed = λ i l.
          let f = fault_at element_fault (tally j.step) total_fault 0 es i empty_element s.elements l in
          (or_none (element_allowed (get_or es i empty_element)) 7 0 f.1).0;
      total = total_allowed j.step 0 es s.elements;
    }

-- the start is sound
pub start_sound : (s : Start) → start_allowed s ≡ true → Within 100000000 s.x × Within 100000000 s.y × Near (start_station s).heading heading_length (pos 2 *ℤ heading_length)
unfolding heading_allowed
start_sound s h =
    let a = and_parts (coordinate_allowed s.x) (coordinate_allowed s.y && heading_allowed s.gx s.gy) h in
    let b = and_parts (coordinate_allowed s.y) (heading_allowed s.gx s.gy) a.1 in
    (record { size = leb-true (nat_abs s.x) 100000000 a.0 }, record { size = leb-true (nat_abs s.y) 100000000 b.0 }, near_of (start_station s).heading heading_length b.1)

-- one station more than steps
pub stations_length : (p : Station) (ss : List Step) → length (stations_from p ss) ≡ length ss
unfolding stations_from
stations_length p [] = refl
stations_length p (s ∷ ss) = ap suc (stations_length (next_station p s) ss)

pub stations_count : (j : Job) → length (stations j) ≡ step_total j.step 0 (take j.count j.elements) + 1
unfolding stations
stations_count j =
    let es = take j.count j.elements in
    omega (arith, stations_length (start_station j.start) (steps_on j.step es), total_count j.step 0 es)

-- the stations that runs are tested for before a path is laid are the job's
pub counted : (j : Job) (n : ℕ) → n ≡ step_total j.step 0 (take j.count j.elements) → n + 1 ≡ length (stations j)
counted j n e = ap (λ (m : ℕ). m + 1) e ∙ sym (stations_count j)

-- the answers
pub fault_answered : (j : Job) (r : PathRuns) (f : Fault) → number_of f ≡ judge j → (judge j ≡ 0 → ⊥) → LayEnsures j r (Err f) r
unfolding lay_answer
fault_answered j r f n h = let e = ne_eqb (judge j) 0 h in record { answered = rw (e, n); runs = rw e }

module _ (j : Job) (r : PathRuns) (h : judge j ≡ 0) where
  pub no_room_answered : room_for (length (stations j)) r ≡ false → LayEnsures j r (Err F.RunTooShort) r
  unfolding lay_answer
  no_room_answered e = let z = eq-eqb (judge j) 0 h in record { answered = rw (z, e); runs = rw (z, e) }

  pub laid_answered : room_for (length (stations j)) r ≡ true → LayEnsures j r (Ok (length (stations j))) (written (stations j) r)
  unfolding lay_answer
  laid_answered e = let z = eq-eqb (judge j) 0 h in record { answered = rw (z, e); runs = rw (z, e) }

-- stations are answered only where the job has no fault and the runs have room
answered_so : (a b : Bool) (f m n : ℕ) → answered n ≡ pick a (pick b (answered m) (refused 21)) (refused f) → (a ≡ true) × (b ≡ true) × (n ≡ m)
answered_so true true f m n e = (refl, refl, cc)
answered_so true false f m n e = absurd (let z : ◌≡◌ {A = ℕ} 0 1 = cc in omega arith)
answered_so false b f m n e = absurd (let z : ◌≡◌ {A = ℕ} 0 1 = cc in omega arith)

pub stations_answered : (j : Job) (r : PathRuns) (n : ℕ) (q : PathRuns) → LayEnsures j r (Ok n) q
    → (judge j ≡ 0) × (room_for (length (stations j)) r ≡ true) × (n ≡ length (stations j)) × (q ≡ written (stations j) r)
unfolding lay_answer
stations_answered j r n q t =
    let m = length (stations j) in
    let s = answered_so (eqb (judge j) 0) (room_for m r) (judge j) m n t.answered in
    (eqb-true (judge j) 0 s.0, s.1, s.2, t.runs ∙ ap (λ (a : Answer ℕ). laid_runs a j r) (sym t.answered))
