-- `job_writer::encode::Encoded::put_units` meets its contract. Assumes nothing.
use Rattle.job.specs.Empty.{empty_unit}
use Rattle.job_writer.specs.Write.{write_unit}
use Rattle.job_writer.proofs.AppendLaws.{run_room, run_next, run_end}
use Rattle.job_writer.proofs.encode.Encoded.put_units.Goals as goal

pub put_unit-requires : goal.put_unit-requires
put_unit-requires c = let a = c.args in
    run_room (write_unit a.form) a.units.now _ _ c.loop-u.u-index empty_unit c.loop-u-test.true c.requires.ends c.loop-u.invariant

pub loop-u-preserved : goal.loop-u-preserved
loop-u-preserved c = let a = c.args in
    run_next (write_unit a.form) a.units.now _ _ c.loop-u.u-index empty_unit c.loop-u-test.true c.put_unit.ensures c.loop-u.invariant

pub returns : goal.returns
returns c = let a = c.args in
    run_end (write_unit a.form) a.units.now _ _ c.loop-u.u-index c.loop-u-test.false c.loop-u.invariant
