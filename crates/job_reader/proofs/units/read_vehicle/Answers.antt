-- `job_reader::units::read_vehicle` meets its contract. Assumes nothing.
use Rattle.job_reader.specs.Record.{read_vehicle}
use Rattle.job_reader.proofs.FirstLaws.{first_read, first_refused}
use Rattle.job_reader.proofs.PartLaws.{handed_on}
use Rattle.job_reader.proofs.units.read_vehicle.Goals as goal

pub returns-in_err-form : goal.returns-in_err-form
unfolding read_vehicle
returns-in_err-form c =
    rw (handed_on _ c.from_residual.result c.from_residual.ensures.1, ← first_refused _ _ _ _ c.in_err-form.ensures)

pub read_units-requires : goal.read_units-requires
read_units-requires c = record { most = (first_read _ _ _ _ _ c.in_ok-form.ensures).most }

pub returns-in_err-units : goal.returns-in_err-units
unfolding read_vehicle
returns-in_err-units c =
    let k = first_read _ _ _ _ _ c.in_ok-form.ensures in
    rw (handed_on _ c.from_residual-in_err-units.result c.from_residual-in_err-units.ensures.1, ← k.reads, k.meaning.form, k.meaning.count, ← c.in_err-units.ensures)

pub returns : goal.returns
unfolding read_vehicle
returns c =
    let k = first_read _ _ _ _ _ c.in_ok-form.ensures in
    rw (c.read_widths.ensures, ← k.reads, k.meaning.form, k.meaning.count, ← c.in_ok-units.ensures)
