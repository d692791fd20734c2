-- `answer_text::finished_text` meets its contract.
use Rattle.answer_text.proofs.LineLaws.{join, from_start}
use Rattle.answer_text.proofs.finished_text.Goals as goal

pub returns : goal.returns
returns c = from_start c.empty.ensures.value (join (join c.put_steps.ensures c.put_widest.ensures) c.put_front.ensures)
