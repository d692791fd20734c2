-- What the contract of `lay` tells a caller is `LayEnsures` itself, which the claim `LaidPath` speaks of.
use Rattle.std.specs.Prelude.{Result, ℕ}
use denote.Triple.Clauses.{AtExit}
use contract.Lifetimes.{Lfts}
use borrow.Fn.Kinds.{Dens, ended_of}
use Rattle.refusal.specs.declared.Fault.{Fault}
use Rattle.path.specs.Laying.{LayEnsures}
use Rattle.path.specs.Lent.{room_runs}
use Rattle.path.proofs.lay.Kinds as kinds
use Rattle.path.proofs.lay.Reads as reads

pub lay_tells : (κs : Lfts 2) (a : Dens κs kinds.ps) (r : Result ℕ Fault) (x : AtExit (ended_of 2 kinds.ps kinds.r) κs) → reads.Learnt κs a r x
    → LayEnsures a.0 (room_runs a.1.0.now) r (room_runs x.1.0.now)
lay_tells κs a r x h = h.1
