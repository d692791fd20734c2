-- `bogie::list_tested` meets its contract, test by test.
use mathlib.Core.Path.{◌≡◌, sym, ◌∙◌}
use native.Mathlib.Omega.{arith}
use borrow.Author.Rules.{rules}
use borrow.Author.Tests.{leb-true}
use mathlib.Core.Bool.{◌&&◌}
use lib.Dec.{leb}
use lib.ListN.{length}
use Rattle.std.proofs.lemmas.Bool.{and_parts}
use Rattle.std.proofs.lemmas.Result.{err_from_is_err_and}
use Rattle.number.specs.Read.{pick}
use Rattle.job.specs.Faults.{or_fault, first_of}
use Rattle.job.proofs.Arrays.{unmapped}
use Rattle.job.proofs.FaultLaws.{sound, numbered}
use Rattle.path.specs.Lent.{room_runs}
use Rattle.path.proofs.JobLaws.{accepted}
use Rattle.reaches.specs.Lent.{room_reaches}
use Rattle.bogie.specs.Settings.{rail_allowed}
use Rattle.bogie.specs.List.{list_refusal}
use Rattle.bogie.proofs.ListLaws.{fault_first, tests_left}
use Rattle.bogie.proofs.list_tested.Goals as goal
use Rattle.bogie.proofs.list_tested.Goals.{After-reaches_lent}

pub returns-in_err-judge : goal.returns-in_err-judge
returns-in_err-judge c =
    let p = err_from_is_err_and c.from_residual.result c.from_residual.ensures.1 in
    let e = c.in_err-judge.ensures in
    rw (p.1, p.2) (e ∙ fault_first c.args.j c.args.rail (room_runs c.args.path_room.now) (room_reaches c.args.room.now) (λ z. numbered _ (e ∙ z)))

pub shared_ref_as_front-step_count : goal.shared_ref_as_front-step_count
shared_ref_as_front-step_count c = leb-true c.args.j.count 64 (and_parts (leb 1 c.args.j.count) _ (sound c.args.j (sym c.in_ok-judge.ensures)).count).1

pub step_count-stations-requires : goal.step_count-stations-requires
step_count-stations-requires c =
    let n : length c.args.j.elements ≡ 64 = search (rules, unmapped) in
    accepted c.args.j n (sym c.in_ok-judge.ensures)

pub overflow_add-stations : goal.overflow_add-stations
overflow_add-stations c =
    let n : length c.args.j.elements ≡ 64 = search (rules, unmapped) in
    record { fits = omega (arith, c.step_count-stations.ensures, (accepted c.args.j n (sym c.in_ok-judge.ensures)).total) }

-- what the tests of the runs and of the rail leave to tell
told : (c : After-reaches_lent) → first_of (pick (c.path_lent.result && c.reaches_lent.result) 0 21) (or_fault (rail_allowed c.args.rail) 29 0)
    ≡ list_refusal c.args.j c.args.rail (room_runs c.args.path_room.now) (room_reaches c.args.room.now)
told c =
    let n : length c.args.j.elements ≡ 64 = search (rules, unmapped) in
    let f = sym c.in_ok-judge.ensures in
    let e = c.step_count-stations.ensures in
    tests_left c.args.j c.args.rail _ _ _ _ _ _ f e (omega (arith, e, (accepted c.args.j n f).total)) c.laid.ensures c.path_lent.ensures c.reaches_lent.ensures

pub returns-then-not-lent : goal.returns-then-not-lent
returns-then-not-lent c = rw c.if-not-lent.true at (told (goal.at.returns-then-not-lent c).After-reaches_lent)

pub returns-then-not-allowed : goal.returns-then-not-allowed
returns-then-not-allowed c = let e = sym c.allowed.ensures ∙ c.if-not-allowed.true in rw (c.if-not-lent.false, e) at (told (goal.at.returns-then-not-allowed c).After-reaches_lent)

pub returns : goal.returns
returns c = let e = sym c.allowed.ensures ∙ c.if-not-allowed.false in rw (c.if-not-lent.false, e) at (told (goal.at.returns c).After-reaches_lent)
