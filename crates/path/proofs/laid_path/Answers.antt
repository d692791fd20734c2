-- `path::laid_path` meets its contract.
use Rattle.path.proofs.SoundLaws.{sound_path}
use Rattle.path.proofs.EntryLaws.{path_in_runs}
use Rattle.path.proofs.laid_path.Goals as goal

pub returns : goal.returns
returns c = record { path = sound_path; runs = path_in_runs }
