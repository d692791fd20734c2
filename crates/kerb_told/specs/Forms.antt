-- The printed forms of N4, word for word.
use Rattle.std.specs.Prelude.{◌≡◌}
use Rattle.text.specs.Ascii.{ascii}
use Rattle.kerbed.specs.Answers as K
use Rattle.kerb_told.specs.Printed.{printed_kerb}

-- the claim
pub record KerbForms : Type 0 where
  -- "report the first step (step k leads to station k), then lowest point"
  pub touch : printed_kerb (K.touch 17 4) ≡ ascii "touch 17 4\n"
  -- "or none"
  pub none : printed_kerb K.nothing ≡ ascii "touch none\n"
  -- "each placed at the field", as 01 prints a refused job
  pub refused_kerb : printed_kerb (K.refused 12 5) ≡ ascii "refused 12 at 5\n"
  -- "a refused step ends the report with its refusal", as 01 prints it
  pub refused_step : printed_kerb (K.stopped 23 2 17) ≡ ascii "refused 23 unit 2 step 17\n"
