-- What the contract of `widest` tells a caller is the equation that the claim about whole walks speaks of.
use mathlib.Core.Path.{◌≡◌}
use denote.Triple.Clauses.{AtExit}
use contract.Lifetimes.{Lfts}
use borrow.Fn.Kinds.{Dens, ended_of}
use Rattle.std.specs.Prelude.{Result}
use Rattle.refusal.specs.declared.Fault.{Fault}
use Rattle.refusal.specs.Numbers.{as_answer}
use Rattle.walk.specs.Drawn.{view}
use Rattle.reaches.specs.declared.Place.{Place}
use Rattle.reaches.specs.Lent.{reached_of}
use Rattle.reaches.specs.Widest.{widest_answer}
use Rattle.reaches.proofs.widest.Kinds as kinds
use Rattle.reaches.proofs.widest.Reads as reads

-- the arguments: record, stations asked for, and the three runs
pub widest_tells : (κs : Lfts 1) (a : Dens κs kinds.ps) (r : Result Place Fault) (x : AtExit (ended_of 1 kinds.ps kinds.r) κs) → reads.Learnt κs a r x
    → as_answer r ≡ widest_answer (view a.0) a.1.0 (reached_of a.1.1.0)
widest_tells κs a r x h = h
