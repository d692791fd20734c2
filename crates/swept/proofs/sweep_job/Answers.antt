-- `swept::sweep_job` meets its contract: the same on runs of zeros.
use Rattle.swept.specs.Swept.{empty_path, empty_reaches}
use Rattle.swept.proofs.SweptLaws.{own_tells}
use Rattle.swept.proofs.sweep_job.Goals as goal

pub returns : goal.returns
unfolding empty_path empty_reaches
returns c = own_tells c.args.bytes.now (λ i. (c.type_inv.bytes i).fits) _ _ _ c.sweep_into.ensures.swept
