-- `answer_text::settings::listed_text` meets its contract.
use native.Mathlib.Omega.{arith}
use Rattle.answer_text.proofs.LineLaws.{join, within, from_start}
use Rattle.answer_text.proofs.settings.listed_text.Goals as goal

pub returns-in-Two : goal.returns-in-Two
returns-in-Two c = rw c.in-Two.is (within 150 (omega arith) (from_start c.empty-in-Two.ensures.value (join c.put_setting-in-Two.ensures c.put_setting-in-Two-2.ensures)))

pub returns-in-Three : goal.returns-in-Three
returns-in-Three c = rw c.in-Three.is (from_start c.empty-in-Three.ensures.value (join (join c.put_setting-in-Three.ensures c.put_setting-in-Three-2.ensures) c.put_setting-in-Three-3.ensures))
