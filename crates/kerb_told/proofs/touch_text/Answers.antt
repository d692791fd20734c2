-- `kerb_told::touch_text` meets its contract.
use Rattle.answer_text.proofs.LineLaws.{join, from_start}
use Rattle.text.specs.Ascii.{ascii}
use Rattle.kerb_told.proofs.touch_text.Goals as goal

pub returns : goal.returns
unfolding ascii
returns c = from_start c.empty.ensures.value (join (join c.put_number.ensures c.put_number-2.ensures) c.put_words.ensures)
