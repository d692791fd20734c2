-- `metres::little_endian` meets its contract: zeros after the bytes make eight of them.
use mathlib.Core.Path.{◌∙◌}
use Rattle.metres.proofs.ByteLaws.{copied_bytes}
use Rattle.metres.proofs.little_endian.Goals as goal

pub returns : goal.returns
returns c = c.from_le_bytes.ensures ∙ copied_bytes c.args.n c.args.at c.args.s.now _ c.requires.most c.requires.ends c.copy_from_slice.ensures.after
