-- `job_reader::units::read_units` meets its contract. Assumes nothing.
use Prim.Native.Nat.{ℕ, ◌≤◌, ◌<◌}
use native.Mathlib.Omega.{arith}
use native.Mathlib.Nat.{sub-zero}
use mathlib.Core.Path.{◌≡◌, ◌∙◌, sym}
use mathlib.Core.List.{List}
use lib.ListN.{length, take, drop}
use Rattle.std.proofs.lemmas.List.{set-append_left, take-append-drop, length-take-le}
use Rattle.number.proofs.ManyLaws.{into_end, into_more, into_refused}
use Rattle.job.specs.Empty.{empty_units}
use Rattle.job.specs.declared.Unit.{Unit as VehicleUnit}
use Rattle.job_reader.specs.Record.{read_unit_at, read_units}
use Rattle.job_reader.proofs.PartLaws.{handed_on}
use Rattle.job_reader.proofs.units.read_units.Invariants.{next, end, all}
use Rattle.job_reader.proofs.units.read_units.Goals as goal

-- as many units as are in use
size : (us : List VehicleUnit) (count : ℕ) → us ≡ empty_units → count ≤ 4 → length (take count us) ≡ count
unfolding empty_units
size us count e h = rw e (length-take-le count empty_units h)

pub loop-i-init : goal.loop-i-init
unfolding read_units
loop-i-init c = rw (c.empty_units-units.ensures, take-append-drop c.args.count empty_units, sub-zero)

pub returns-in_err-unit : goal.returns-in_err-unit
returns-in_err-unit c =
    let l = c.loop-i in
    let a = c.args in
    let n = size _ a.count c.empty_units-units.ensures c.requires.most in
    let lt : l.i < a.count = omega (arith, n, c.loop-i-test.true) in
    rw (handed_on _ c.from_residual.result c.from_residual.ensures.1)
    (sym (into_refused (read_unit_at a.form a.count) next end _ (all l.place-items a.count) a.count l.i _ l.i lt c.in_err-unit.ensures) ∙ l.invariant)

pub loop-i-preserved : goal.loop-i-preserved
loop-i-preserved c =
    let l = c.loop-i in
    let a = c.args in
    let n = size _ a.count c.empty_units-units.ensures c.requires.most in
    let lt : l.i < a.count = omega (arith, n, c.loop-i-test.true) in
    let within : l.i < length l.place-items = omega (arith, c.loop-i-test.true) in
    rw (← set-append_left l.place-items (drop a.count empty_units) l.i c.in_ok-unit.unit within)
    (sym (into_more (read_unit_at a.form a.count) next end _ (all l.place-items a.count) a.count l.i _ l.i lt c.in_ok-unit.ensures) ∙ l.invariant)

pub returns : goal.returns
returns c =
    let l = c.loop-i in
    let a = c.args in
    let n = size _ a.count c.empty_units-units.ensures c.requires.most in
    let le : a.count ≤ l.i = omega (arith, n, c.loop-i-test.false) in
    rw c.empty_units-units.ensures
    (sym (into_end (read_unit_at a.form a.count) next end _ (all l.place-items a.count) a.count l.i _ l.i le) ∙ l.invariant)
