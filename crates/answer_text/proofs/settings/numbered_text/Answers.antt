-- `answer_text::settings::numbered_text` meets its contract.
use Rattle.text.specs.Ascii.{ascii}
use Rattle.answer_text.proofs.LineLaws.{join, from_start}
use Rattle.answer_text.proofs.settings.numbered_text.Goals as goal

pub returns : goal.returns
unfolding ascii
returns c = from_start c.empty.ensures.value (join (rw c.from.ensures at c.put_number.ensures) c.put_words.ensures)
