-- `path_trials::job_end` meets its contract.
use Rattle.path_trials.proofs.EndLaws.{end_measurable}
use Rattle.path_trials.proofs.job_end.Goals as goal

pub returns : goal.returns
returns c = end_measurable c.args.j _ c.path_end.result c.path_end.ensures
