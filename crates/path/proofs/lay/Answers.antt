-- `path::lay` meets its contract, answer by answer.
use Prim.Native.Nat.{ℕ}
use mathlib.Core.Path.{◌≡◌, sym, ◌∙◌, ap, subst, subst₂}
use mathlib.Core.Bool.{true, false}
use native.Mathlib.Omega.{arith}
use borrow.Author.Rules.{rules}
use borrow.Author.Tests.{leb-true}
use lib.Dec.{leb}
use lib.ListN.{length, take}
use Rattle.std.proofs.lemmas.Bool.{and_parts}
use Rattle.std.specs.Prelude.{Ok}
use Rattle.std.proofs.lemmas.Result.{err_from_is_err_and}
use Rattle.job.specs.declared.Job.{Job}
use Rattle.job.specs.Faults.{judge}
use Rattle.job.proofs.FaultLaws.{sound, numbered}
use Rattle.job.proofs.Arrays.{unmapped}
use Rattle.path.specs.declared.Station.{Station}
use Rattle.path.specs.Stations.{start_station, stations}
use Rattle.path.specs.Laying.{PathRuns, room_for, written, stations_over, LayEnsures}
use Rattle.path.specs.Lent.{room_runs}
use Rattle.path.proofs.JobLaws.{accepted, counted, fault_answered, no_room_answered, laid_answered}
use Rattle.path.proofs.lay.Goals as goal

pub returns-in_err-judge-clause-laid : goal.returns-in_err-judge-clause-laid
returns-in_err-judge-clause-laid c =
    let p = err_from_is_err_and c.from_residual.result c.from_residual.ensures.1 in
    rw (p.1, p.2) (fault_answered c.args.j (room_runs c.args.room.now) _ c.in_err-judge.ensures (λ e. numbered _ (c.in_err-judge.ensures ∙ e)))

pub shared_ref_as_front-elements : goal.shared_ref_as_front-elements
shared_ref_as_front-elements c = leb-true c.args.j.count 64 (and_parts (leb 1 c.args.j.count) _ (sound c.args.j (sym c.in_ok-judge.ensures)).count).1

pub step_count-steps-requires : goal.step_count-steps-requires
step_count-steps-requires c =
    let n : length c.args.j.elements ≡ 64 = search (rules, unmapped) in
    accepted c.args.j n (sym c.in_ok-judge.ensures)

pub overflow_add-stations : goal.overflow_add-stations
overflow_add-stations c =
    let n : length c.args.j.elements ≡ 64 = search (rules, unmapped) in
    record { fits = omega (arith, c.step_count-steps.ensures, (accepted c.args.j n (sym c.in_ok-judge.ensures)).total) }

pub returns-then-not-has_room-clause-laid : goal.returns-then-not-has_room-clause-laid
returns-then-not-has_room-clause-laid c =
    let r = room_runs c.args.room.now in
    no_room_answered c.args.j r (sym c.in_ok-judge.ensures)
    (subst (λ (n : ℕ). room_for n r ≡ false) (counted c.args.j _ c.step_count-steps.ensures) (sym c.has_room.ensures ∙ c.if-not-has_room.true))

pub lay_stations-requires : goal.lay_stations-requires
lay_stations-requires c =
    let n : length c.args.j.elements ≡ 64 = search (rules, unmapped) in
    let h = sym c.in_ok-judge.ensures in
    record {
      accepted = accepted c.args.j n h;
      counted = c.step_count-steps.ensures;
      room = sym c.has_room.ensures ∙ c.if-not-has_room.false;
      start = rw c.start_station.ensures (sound c.args.j h).start;
    }

laid : (job : Job) (r q : PathRuns) (n : ℕ) → judge job ≡ 0 → n ≡ length (stations job) → room_for n r ≡ true
    → q ≡ written (stations_over job.step (take job.count job.elements) (start_station job.start)) r → LayEnsures job r (Ok n) q
unfolding stations
laid job r q n h e t w =
    subst₂ (λ (m : ℕ) (z : PathRuns). LayEnsures job r (Ok m) z) (sym e) (sym w) (laid_answered job r h (subst (λ (m : ℕ). room_for m r ≡ true) e t))

pub returns-clause-laid : goal.returns-clause-laid
returns-clause-laid c =
    let j = c.args.j in
    laid j (room_runs c.args.room.now) _ _ (sym c.in_ok-judge.ensures) (counted j _ c.step_count-steps.ensures) (sym c.has_room.ensures ∙ c.if-not-has_room.false)
    (c.lay_stations.ensures.laid ∙ ap (λ (p : Station). written (stations_over j.step (take j.count j.elements) p) (room_runs c.args.room.now)) c.start_station.ensures)
