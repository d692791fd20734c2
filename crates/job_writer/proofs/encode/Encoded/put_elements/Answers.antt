-- `job_writer::encode::Encoded::put_elements` meets its contract. Assumes nothing.
use Rattle.job.specs.Empty.{empty_element}
use Rattle.job_writer.specs.Write.{write_element}
use Rattle.job_writer.proofs.AppendLaws.{run_room, run_next, run_end}
use Rattle.job_writer.proofs.encode.Encoded.put_elements.Goals as goal

pub put_element-requires : goal.put_element-requires
put_element-requires c = let es = c.args.elements.now in
    record {
      allowed = c.requires.allowed c.loop-e.e-index c.loop-e-test.true;
      ends = (run_room write_element es _ _ c.loop-e.e-index empty_element c.loop-e-test.true c.requires.ends c.loop-e.invariant).ends;
    }

pub loop-e-preserved : goal.loop-e-preserved
loop-e-preserved c = let es = c.args.elements.now in
    run_next write_element es _ _ c.loop-e.e-index empty_element c.loop-e-test.true c.put_element.ensures c.loop-e.invariant

pub returns : goal.returns
returns c = let es = c.args.elements.now in
    run_end write_element es _ _ c.loop-e.e-index c.loop-e-test.false c.loop-e.invariant
