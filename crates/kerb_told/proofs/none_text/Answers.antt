-- `kerb_told::none_text` meets its contract.
use Rattle.answer_text.proofs.LineLaws.{from_start}
use Rattle.text.specs.Ascii.{ascii}
use Rattle.kerb_told.proofs.none_text.Goals as goal

pub returns : goal.returns
unfolding ascii
returns c = from_start c.empty.ensures.value c.put_words.ensures
