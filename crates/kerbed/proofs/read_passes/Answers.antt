-- `kerbed::read_passes` meets its contract.
use Rattle.kerbed.proofs.SurveyLaws.{read_passes_lem}
use Rattle.kerbed.proofs.read_passes.Goals as goal

pub returns : goal.returns
returns c = read_passes_lem
