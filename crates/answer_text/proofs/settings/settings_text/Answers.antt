-- `answer_text::settings::settings_text` meets its contract. Assumes nothing.
use native.Mathlib.Omega.{arith}
use Rattle.std.proofs.Common.{rules, ◌≡◌}
use Rattle.told.specs.declared.Numbered.TheVariants as T
use Rattle.answer_text.specs.Settings.{printed_settings}
use Rattle.answer_text.proofs.AnswerLaws.{whole}
use Rattle.answer_text.proofs.settings.settings_text.Goals as goal

pub returns-in-Ok : goal.returns-in-Ok
unfolding printed_settings
returns-in-Ok g c = rw c.in-Ok.is (whole _ _ 150 (omega arith) c.listed_text.ensures)

pub returns-in-At : goal.returns-in-At
unfolding printed_settings
returns-in-At g c =
    let e : g.R.Tell.told c.in-Err.refusal ≡ T.At c.in-At.number c.in-At.byte = search rules in
    rw (c.in-Err.is, e) (whole _ _ 53 (omega arith) c.refused_text.ensures)

pub returns-in-Alone : goal.returns-in-Alone
unfolding printed_settings
returns-in-Alone g c =
    let e : g.R.Tell.told c.in-Err.refusal ≡ T.Alone c.in-Alone.number = search rules in
    rw (c.in-Err.is, e) (whole _ _ 29 (omega arith) c.numbered_text.ensures)
