-- `text::put_bytes` meets its contract: the part of the run that is written holds the bytes.
use mathlib.Core.Path.{refl}
use Rattle.text.proofs.Writing.{copied}
use Rattle.text.proofs.put_bytes.Goals as goal

pub returns : goal.returns
returns c = (refl, rw c.copy_from_slice.ensures.after (copied _ _ _ c.requires.ends))
