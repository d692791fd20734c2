-- The printed forms of N4, by computing.
use mathlib.Core.Path.{refl}
use Rattle.text.specs.Ascii.{ascii}
use Rattle.text.specs.Decimal.{front, decimal}
use Rattle.kerb_told.specs.Printed.{printed_kerb}
use Rattle.kerb_told.specs.Forms.{KerbForms}

pub kerb_forms_lem : KerbForms
unfolding ascii front decimal printed_kerb
kerb_forms_lem = record { touch = refl; none = refl; refused_kerb = refl; refused_step = refl }
