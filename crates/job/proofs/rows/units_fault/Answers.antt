-- `job::rows::units_fault` meets its contract. Assumes nothing.
use Prim.Native.Nat.{◌+◌}
use native.Mathlib.Omega.{arith}
use mathlib.Core.Path.{◌≡◌, ◌∙◌, sym}
use lib.ListN.{length}
use Rattle.std.proofs.lemmas.Result.{err_from_is_err_and}
use Rattle.job.specs.Faults.{first_of, unit_fault_at, units_fault}
use Rattle.job.specs.Empty.{empty_unit}
use Rattle.refusal.specs.Numbers.{fault_number}
use Rattle.job.proofs.FaultLaws.{fault_next, fault_end, first_told}
use Rattle.job.proofs.rows.units_fault.Invariants.{left}
use Rattle.job.proofs.rows.units_fault.Goals as goal
use Rattle.job.proofs.rows.units_fault.Goals.{After-unit_fault}

-- one turn: the fault of the unit at i, and of those after it
turn : (c : After-unit_fault) →
    let l = c.loop-i in
    let a = c.args in
    first_of (fault_number c.unit_fault.result) (left a.form a.units.now (l.i + 1)) ≡ left a.form a.units.now 0
turn c =
    let l = c.loop-i in
    let us = c.args.units.now in
    rw c.unit_fault.ensures (sym (fault_next (unit_fault_at c.args.form (length us)) (λ i u. i + 1) (λ i. 0) us (length us) l.i l.i empty_unit (omega arith) c.loop-i-test.true) ∙ l.invariant)

pub returns-in_err-unit_fault : goal.returns-in_err-unit_fault
unfolding units_fault
returns-in_err-unit_fault c =
    let p = err_from_is_err_and c.from_residual.result c.from_residual.ensures.1 in
    let t = turn (goal.at.returns-in_err-unit_fault c).After-unit_fault in
    rw (p.1, p.2) (sym (first_told _ _ _ c.in_err-unit_fault.was) ∙ t)

pub loop-i-preserved : goal.loop-i-preserved
loop-i-preserved c = rw c.in_ok-unit_fault.was at (turn (goal.at.loop-i-preserved c).After-unit_fault)

pub returns : goal.returns
unfolding units_fault
returns c = let l = c.loop-i in
    let us = c.args.units.now in
    sym (fault_end _ _ (λ i. 0) us (length us) l.i l.i c.loop-i-test.false) ∙ l.invariant
