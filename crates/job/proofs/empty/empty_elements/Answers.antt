-- `job::empty::empty_elements` meets its contract. Assumes nothing.
use mathlib.Core.Path.{refl}
use Rattle.job.specs.Empty.{empty_elements}
use Rattle.job.proofs.empty.empty_elements.Goals as goal

pub returns : goal.returns
unfolding empty_elements
returns c = refl
