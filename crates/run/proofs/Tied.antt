-- What the contract of `run` tells a caller is `RunEnsures` itself, which the claim about whole jobs speaks of.
use denote.Triple.Clauses.{AtExit}
use contract.Lifetimes.{Lfts}
use borrow.Fn.Kinds.{Dens, ended_of}
use Rattle.std.specs.Prelude.{Result}
use Rattle.path.specs.Lent.{room_runs}
use Rattle.reaches.specs.Lent.{room_reaches}
use Rattle.run.specs.declared.Finish.{Finish}
use Rattle.run.specs.declared.RunRefusal.{RunRefusal}
use Rattle.run.specs.Ran.{as_ran}
use Rattle.run.specs.Run.{RunEnsures}
use Rattle.run.proofs.run.Kinds as kinds
use Rattle.run.proofs.run.Reads as reads

-- the arguments: the job, the room of the path's runs and that of the stations' runs
pub run_tells : (κs : Lfts 4) (a : Dens κs kinds.ps) (r : Result Finish RunRefusal) (x : AtExit (ended_of 4 kinds.ps kinds.r) κs) → reads.Learnt κs a r x
    → RunEnsures a.0
    (room_runs a.1.0.now)
    (room_reaches a.1.1.0.now)
    (as_ran r)
    (room_runs x.1.0.now)
    (room_reaches x.1.1.0.now)
run_tells κs a r x h = h.1.1
