-- `answer_text::Text::put_steps` meets its contract.
use Rattle.text.specs.Ascii.{ascii}
use Rattle.answer_text.proofs.LineLaws.{join}
use Rattle.answer_text.proofs.Text.put_steps.Goals as goal

pub returns : goal.returns
unfolding ascii
returns c = join c.put_number.ensures c.put_words.ensures
