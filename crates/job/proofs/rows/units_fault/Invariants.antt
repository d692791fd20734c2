-- `job::rows::units_fault` meets its contract. Assumes nothing.
use Prim.Native.Nat.{ℕ, ◌+◌}
use mathlib.Core.Path.{◌≡◌}
use mathlib.Core.List.{List}
use lib.ListN.{length, take, drop}
use Rattle.job.specs.Faults.{fault_of, unit_fault_at}
use Rattle.job.specs.declared.Form.{Form}
use Rattle.job.specs.declared.Unit.{Unit as VehicleUnit}
use Rattle.job.proofs.rows.units_fault.Given as goal

-- the fault of the units from i on
abbrev pub left : Form → List VehicleUnit → ℕ → ℕ
left form us i = fault_of (unit_fault_at form (length us)) (λ i u. i + 1) (λ i. 0) i (drop i (take (length us) us))

abbrev pub invariant-loop-i : goal.invariant-loop-i
invariant-loop-i l = left l.form l.units l.i ≡ left l.form l.units 0
