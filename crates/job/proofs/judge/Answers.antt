-- `job::judge` meets its contract. Assumes nothing.
use Prim.Native.Nat.{◌≤◌}
use native.Mathlib.Omega.{arith}
use borrow.Author.Rules.{rules}
use mathlib.Core.Path.{◌≡◌, sym}
use lib.ListN.{length}
use Rattle.std.proofs.lemmas.Result.{err_from_is_err_and}
use Rattle.number.proofs.FieldCodec.{within_most}
use Rattle.job.specs.Faults.{judge}
use Rattle.job.proofs.Arrays.{unmapped}
use Rattle.job.proofs.FaultLaws.{first_told, elements_used}
use Rattle.job.proofs.judge.Goals as goal

pub returns-in_err-vehicle_fault : goal.returns-in_err-vehicle_fault
unfolding judge
returns-in_err-vehicle_fault c =
    let p = err_from_is_err_and c.from_residual.result c.from_residual.ensures.1 in
    rw (p.1, p.2, ← c.vehicle_fault.ensures) (sym (first_told _ _ _ c.in_err-vehicle_fault.was))

pub returns-then-not-start_allowed : goal.returns-then-not-start_allowed
unfolding judge
returns-then-not-start_allowed c = rw (← c.in_ok-vehicle_fault.ensures, ← c.if-not-start_allowed.ensures)

pub returns-then-not-is_within : goal.returns-then-not-is_within
unfolding judge
returns-then-not-is_within c = rw (← c.in_ok-vehicle_fault.ensures, ← c.if-not-start_allowed.ensures, ← c.if-not-is_within.ensures)

pub returns-then-not-is_within_count : goal.returns-then-not-is_within_count
unfolding judge
returns-then-not-is_within_count c = rw (← c.in_ok-vehicle_fault.ensures, ← c.if-not-start_allowed.ensures, ← c.if-not-is_within.ensures, ← c.if-not-is_within_count.ensures)

pub returns : goal.returns
unfolding judge
returns c = let j = c.args.j in
    let n : length j.elements ≡ 64 = search (rules, unmapped) in
    let h : j.count ≤ length j.elements = omega (arith, within_most (record { least = 1; most = 64 }) j.count (sym c.if-not-is_within_count.ensures), n) in
    rw (c.elements_fault.ensures, elements_used j.count j.step j.elements h, ← c.in_ok-vehicle_fault.ensures, ← c.if-not-start_allowed.ensures, ← c.if-not-is_within.ensures, ← c.if-not-is_within_count.ensures)
