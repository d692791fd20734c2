-- `job::empty::empty_units` meets its contract. Assumes nothing.
use Rattle.job.specs.Empty.{empty_units}
use Rattle.job.proofs.empty.empty_units.Goals as goal

pub returns : goal.returns
unfolding empty_units
returns c = rw c.empty_body-body.ensures
