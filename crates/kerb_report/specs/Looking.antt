-- What the tests before any step come to.
use Rattle.std.specs.Prelude.{ℕ}
use Rattle.number.specs.Read.{pick}
use Rattle.path.specs.Laying.{PathRuns}
use Rattle.walk.specs.Drawn.{Drawn}
use Rattle.walk.specs.Tests.{path_lent, path_sound, record_sound}
use Rattle.kerb_line.specs.Kerb.{KerbRuns, kerb_lent, kerb_sound}

-- 21 and then 26 for the path, each followed by the kerb's, then 27; 0 for none
unfoldable pub report_refusal : Drawn → ℕ → PathRuns → ℕ → KerbRuns → ℕ
report_refusal s asked path n kerb =
    pick (path_lent asked path)
    (pick (kerb_lent n kerb)
    (pick (path_sound asked path)
    (pick (kerb_sound n kerb)
    (pick (record_sound asked s) 0 27)
    26)
    26)
    21)
    21
