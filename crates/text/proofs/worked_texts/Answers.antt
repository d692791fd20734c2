-- `text::worked_texts` meets its contract. Assumes nothing.
use Rattle.text.proofs.Rows.{worked_texts_lem}
use Rattle.text.proofs.worked_texts.Goals as goal

pub returns : goal.returns
returns c = worked_texts_lem
