-- `run::run` meets its contract, answer by answer.
use Prim.Native.Nat.{ℕ, ◌+◌}
use mathlib.Core.Path.{◌≡◌, sym, ◌∙◌, ap, subst}
use mathlib.Core.Bool.{true}
use native.Mathlib.Omega.{arith}
use borrow.Author.Rules.{rules}
use borrow.Author.Tests.{leb-true}
use lib.Dec.{leb}
use lib.ListN.{length, take}
use Rattle.std.proofs.lemmas.Bool.{and_parts}
use Rattle.std.specs.Prelude.{Ok}
use Rattle.job.specs.declared.Job.{Job}
use Rattle.job.proofs.Arrays.{unmapped}
use Rattle.job.proofs.FaultLaws.{sound, numbered}
use Rattle.path.specs.Stations.{step_total}
use Rattle.path.specs.Laying.{PathRuns, LayEnsures}
use Rattle.path.specs.Lent.{room_runs}
use Rattle.path.proofs.JobLaws.{accepted, counted, stations_answered}
use Rattle.walk.specs.Tests.{reaches_lent}
use Rattle.reaches.specs.Cells.{Reaches, lengths_of}
use Rattle.reaches.specs.Lent.{room_reaches}
use Rattle.stations.specs.Placing.{call_of}
use Rattle.run.specs.Ran.{refused, as_ran}
use Rattle.run.specs.Run.{RunEnsures, Runnable, OverEnsures}
use Rattle.run.proofs.RunLaws.{run_fault, reaches_short, path_short, runnable, run_done}
use Rattle.run.proofs.run.Goals as goal

-- as many as were laid
has_room : (j : Job) (p q : PathRuns) (m n : ℕ) (r : Reaches) → LayEnsures j p (Ok m) q → n ≡ step_total j.step 0 (take j.count j.elements) → reaches_lent (n + 1) (lengths_of r) ≡ true
    → reaches_lent m (lengths_of r) ≡ true
has_room j p q m n r t e = subst (λ (k : ℕ). reaches_lent k (lengths_of r) ≡ true) (counted j n e ∙ sym (stations_answered j p m q t).2)

pub returns-in-Err-clause-ran : goal.returns-in-Err-clause-ran
returns-in-Err-clause-ran c =
    let j = c.args.j in
    let p = room_runs c.args.path_room.now in
    let r = room_reaches c.args.room.now in
    subst (λ (n : ℕ). RunEnsures j p r (refused n) p r) (sym c.in-Err.ensures) (run_fault j p r (λ e. numbered c.in-Err.fault (c.in-Err.ensures ∙ e)))

pub shared_ref_as_front-step_count : goal.shared_ref_as_front-step_count
shared_ref_as_front-step_count c = leb-true c.args.j.count 64 (and_parts (leb 1 c.args.j.count) _ (sound c.args.j (sym c.in_default.ensures)).count).1

pub step_count-stations-requires : goal.step_count-stations-requires
step_count-stations-requires c =
    let n : length c.args.j.elements ≡ 64 = search (rules, unmapped) in
    accepted c.args.j n (sym c.in_default.ensures)

pub overflow_add-stations : goal.overflow_add-stations
overflow_add-stations c =
    let n : length c.args.j.elements ≡ 64 = search (rules, unmapped) in
    record { fits = omega (arith, c.step_count-stations.ensures, (accepted c.args.j n (sym c.in_default.ensures)).total) }

pub returns-then-not-reaches_lent-clause-ran : goal.returns-then-not-reaches_lent-clause-ran
returns-then-not-reaches_lent-clause-ran c =
    let j = c.args.j in
    let r = room_reaches c.args.room.now in
    reaches_short j _ r (sym c.in_default.ensures)
    (ap (λ (n : ℕ). reaches_lent n (lengths_of r)) (sym (counted j _ c.step_count-stations.ensures)) ∙ sym c.reaches_lent.ensures ∙ c.if-not-reaches_lent.true)

pub run_over-requires : goal.run_over-requires
run_over-requires c =
    let j = c.args.j in
    let r = room_reaches c.args.room.now in
    let t = c.in-Ok.ensures.laid in
    let lent = has_room j _ _ _ _ r t c.step_count-stations.ensures (sym c.reaches_lent.ensures ∙ c.if-not-reaches_lent.false) in
    subst (λ (q : PathRuns). Runnable j.vehicle (call_of c.in-Ok.asked q r)) (sym c.laid.ensures) (runnable j _ _ _ t r lent)

pub returns-in-Ok-clause-ran : goal.returns-in-Ok-clause-ran
returns-in-Ok-clause-ran c =
    let j = c.args.j in
    let r = room_reaches c.args.room.now in
    let t = c.in-Ok.ensures.laid in
    let lent = has_room j _ _ _ _ r t c.step_count-stations.ensures (sym c.reaches_lent.ensures ∙ c.if-not-reaches_lent.false) in
    let over = subst (λ (q : PathRuns). OverEnsures c.in-Ok.asked q j.vehicle r (as_ran c.run_over.result) (room_reaches c.run_over.new.room)) c.laid.ensures c.run_over.ensures.ran in
    run_done j _ _ _ t r _ _ lent over

pub returns-in-Err-lay-clause-ran : goal.returns-in-Err-lay-clause-ran
returns-in-Err-lay-clause-ran c = path_short c.args.j _ _ (sym c.in_default.ensures) _ _ c.in-Err-lay.ensures.laid
