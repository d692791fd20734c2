-- `offered::list_job` meets its contract: the same on runs of zeros.
use Rattle.swept.specs.Swept.{empty_path, empty_reaches}
use Rattle.offered.proofs.OfferedLaws.{own_offers}
use Rattle.offered.proofs.list_job.Goals as goal

pub returns : goal.returns
unfolding empty_path empty_reaches
returns c = own_offers c.args.bytes.now (λ i. (c.type_inv.bytes i).fits) c.args.rail _ _ _ c.list_into.ensures.listed
