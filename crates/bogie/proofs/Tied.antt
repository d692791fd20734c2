-- What the contract of `list_settings` tells a caller is `ListEnsures` itself, which the claim about the list speaks of.
use denote.Triple.Clauses.{AtExit}
use contract.Lifetimes.{Lfts}
use borrow.Fn.Kinds.{Dens, ended_of}
use Rattle.std.specs.Prelude.{Result}
use Rattle.refusal.specs.declared.Fault.{Fault}
use Rattle.path.specs.Lent.{room_runs}
use Rattle.reaches.specs.Lent.{room_reaches}
use Rattle.ranking.specs.declared.Shortlist.{Shortlist}
use Rattle.ranking.specs.Ranking.{as_listed}
use Rattle.bogie.specs.List.{ListEnsures}
use Rattle.bogie.proofs.list_settings.Kinds as kinds
use Rattle.bogie.proofs.list_settings.Reads as reads

-- the arguments: the job, the rail of settings, the room of the path's runs and that of the stations' runs
pub list_tells : (κs : Lfts 4) (a : Dens κs kinds.ps) (r : Result Shortlist Fault) (x : AtExit (ended_of 4 kinds.ps kinds.r) κs) → reads.Learnt κs a r x
    → ListEnsures a.0 a.1.0
    (room_runs a.1.1.0.now)
    (room_reaches a.1.1.1.0.now)
    (as_listed r)
    (room_runs x.1.1.0.now)
    (room_reaches x.1.1.1.0.now)
list_tells κs a r x h = h.1.1
