-- The lists that a kerb's lent runs hold.
use Rattle.kerb_line.specs.declared.Kerb.{Kerb}
use Rattle.kerb_line.specs.Kerb.{KerbRuns, kerb_runs}

abbrev pub runs_of : Kerb → KerbRuns
runs_of k = kerb_runs k.xs.now k.ys.now
