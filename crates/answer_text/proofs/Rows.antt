-- The printed forms of document 01 and of N1, by computing. Assumes nothing.
use mathlib.Core.Path.{refl}
use Rattle.text.specs.Ascii.{ascii}
use Rattle.text.specs.Decimal.{front, decimal, signed_decimal}
use Rattle.answer_text.specs.Printed.{printed}
use Rattle.answer_text.specs.Settings.{printed_settings}
use Rattle.answer_text.specs.Forms.{unmarked, PrintedForms, SettingForms}

pub printed_forms_lem : PrintedForms
unfolding unmarked ascii front decimal signed_decimal printed
printed_forms_lem = record { finished = refl; without_widest = refl; refused_job = refl; refused_step = refl }

pub setting_forms_lem : SettingForms
unfolding ascii front decimal signed_decimal printed_settings
setting_forms_lem = record { one = refl; three = refl; outside = refl; none = refl; refused_job = refl }
