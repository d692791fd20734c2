-- `job::rows::elements_fault` meets its contract. Assumes nothing.
use Prim.Native.Nat.{◌+◌}
use native.Mathlib.Omega.{arith}
use mathlib.Core.Path.{◌≡◌, ◌∙◌, sym}
use lib.ListN.{length, get_or}
use Rattle.job.specs.Steps.{tally}
use Rattle.job.specs.Faults.{first_of, or_fault, element_fault, total_fault, elements_fault}
use Rattle.job.specs.Empty.{empty_element}
use Rattle.job.proofs.FaultLaws.{fault_next, fault_end}
use Rattle.job.proofs.StepLaws.{tally_most}
use Rattle.job.proofs.rows.elements_fault.Invariants.{left}
use Rattle.job.proofs.rows.elements_fault.Goals as goal
use Rattle.job.proofs.rows.elements_fault.Goals.{After-element_allowed, After-steps_allowed}

-- one turn: the test of the element at i, and of those after it with its steps
turn : (c : After-element_allowed) →
    let l = c.loop-e in
    let a = c.args in
    let es = a.elements.now in
    let e = get_or es l.e-index empty_element in
    first_of (or_fault c.element_allowed.result 8 0) (left a.step es (tally a.step l.total e) (l.e-index + 1)) ≡ left a.step es 0 0
turn c =
    let l = c.loop-e in
    let a = c.args in
    let es = a.elements.now in
    rw c.element_allowed.ensures (sym (fault_next element_fault (tally a.step) total_fault es (length es) l.e-index l.total empty_element (omega arith) c.loop-e-test.true) ∙ l.invariant.1)

-- after the last element the total is tested
done : (c : After-steps_allowed) → total_fault c.loop-e.total ≡ left c.args.step c.args.elements.now 0 0
done c =
    let l = c.loop-e in
    let a = c.args in
    let es = a.elements.now in
    sym (fault_end element_fault (tally a.step) total_fault es (length es) l.e-index l.total c.loop-e-test.false) ∙ l.invariant.1

pub returns-then-not-element_allowed : goal.returns-then-not-element_allowed
unfolding elements_fault
returns-then-not-element_allowed c = rw c.if-not-element_allowed.true at (turn c.before)

pub loop-e-preserved : goal.loop-e-preserved
loop-e-preserved c = let l = c.loop-e in
    let a = c.args in
    let e = get_or a.elements.now l.e-index empty_element in
    let q = (goal.at.loop-e-preserved c).After-element_allowed in
    let t : c.tally_element-total.result ≡ tally a.step l.total e = c.tally_element-total.ensures in (
      omega (arith, t, l.invariant.0, tally_most a.step l.total e (sym q.element_allowed.ensures ∙ c.if-not-element_allowed.false)),
      rw t (rw c.if-not-element_allowed.false at (turn q)),
    )

pub returns-then-steps_allowed : goal.returns-then-steps_allowed
unfolding elements_fault
returns-then-steps_allowed c = rw (sym c.steps_allowed.ensures ∙ c.if-steps_allowed.true) at (done c.before)

pub returns-else-steps_allowed : goal.returns-else-steps_allowed
unfolding elements_fault
returns-else-steps_allowed c = rw (sym c.steps_allowed.ensures ∙ c.if-steps_allowed.false) at (done c.before)
