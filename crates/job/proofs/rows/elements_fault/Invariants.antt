-- `job::rows::elements_fault` meets its contract. Assumes nothing.
use Prim.Native.Nat.{ℕ, ◌*◌, ◌≤◌}
use mathlib.Core.Path.{◌≡◌}
use mathlib.Core.List.{List}
use lib.ListN.{length, take, drop}
use Rattle.job.specs.Steps.{tally}
use Rattle.job.specs.Faults.{fault_of, element_fault, total_fault}
use Rattle.job.specs.declared.Element.{Element}
use Rattle.job.proofs.rows.elements_fault.Given as goal

-- the fault of the elements from i on, with the steps of those before them
abbrev pub left : ℕ → List Element → ℕ → ℕ → ℕ
left step es total i = fault_of element_fault (tally step) total_fault total (drop i (take (length es) es))

abbrev pub invariant-loop-e : goal.invariant-loop-e
invariant-loop-e l = (l.total ≤ l.e-index * 40000001) × (left l.step l.elements l.total l.e-index ≡ left l.step l.elements 0 0)
