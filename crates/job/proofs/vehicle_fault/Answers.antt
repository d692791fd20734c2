-- `job::vehicle_fault` meets its contract. Assumes nothing.
use native.Mathlib.Omega.{arith}
use borrow.Author.Rules.{rules}
use mathlib.Core.Path.{◌≡◌, sym}
use mathlib.Core.Bool.{true}
use lib.ListN.{length, take}
use Rattle.std.proofs.lemmas.Result.{err_from_is_err_and}
use Rattle.number.proofs.FieldCodec.{within_most}
use Rattle.number.specs.Field.{within}
use Rattle.job.specs.declared.Vehicle.{Vehicle}
use Rattle.job.specs.Faults.{or_fault, vehicle_fault, units_fault}
use Rattle.job.proofs.Arrays.{unmapped}
use Rattle.job.proofs.FaultLaws.{first_told, units_used}
use Rattle.job.proofs.vehicle_fault.Goals as goal
use Rattle.job.proofs.vehicle_fault.Goals.{After-widths_allowed}

-- the units that are tested are those in use
used : (v : Vehicle) → length v.units ≡ 4 → true ≡ within (record { least = 1; most = 4 }) v.count → units_fault v.form (length (take v.count v.units)) (take v.count v.units) ≡ units_fault v.form v.count v.units
used v four t = units_used v.count v.form v.units (omega (arith, within_most (record { least = 1; most = 4 }) v.count (sym t), four))

pub returns-then-not-is_within_count : goal.returns-then-not-is_within_count
unfolding vehicle_fault
returns-then-not-is_within_count c = rw (← c.if-not-is_within_count.ensures)

pub returns-in_err-units_fault : goal.returns-in_err-units_fault
unfolding vehicle_fault
returns-in_err-units_fault c =
    let p = err_from_is_err_and c.from_residual.result c.from_residual.ensures.1 in
    let four : length c.args.v.units ≡ 4 = search (rules, unmapped) in
    rw (p.1, p.2, ← c.if-not-is_within_count.ensures, ← used c.args.v four c.if-not-is_within_count.ensures, ← c.units_fault.ensures) (sym (first_told _ _ _ c.in_err-units_fault.was))

-- no unit in use has a fault: the widths decide
by_widths : (c : After-widths_allowed) → vehicle_fault c.args.v ≡ or_fault c.widths_allowed.result 5 0
unfolding vehicle_fault
by_widths c =
    let four : length c.args.v.units ≡ 4 = search (rules, unmapped) in
    rw (← c.if-not-is_within_count.ensures, ← used c.args.v four c.if-not-is_within_count.ensures, ← c.in_ok-units_fault.ensures, ← c.widths_allowed.ensures)

pub returns-then-widths_allowed : goal.returns-then-widths_allowed
returns-then-widths_allowed c = rw (by_widths c.before, c.if-widths_allowed.true)

pub returns-else-widths_allowed : goal.returns-else-widths_allowed
returns-else-widths_allowed c = rw (by_widths c.before, c.if-widths_allowed.false)
