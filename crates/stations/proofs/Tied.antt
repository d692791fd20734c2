-- What the contracts of `place` and `step` tell a caller is `PlaceEnsures` and `StepEnsures` themselves, which the claim over any list of calls speaks of.
use denote.Triple.Clauses.{AtExit}
use contract.Lifetimes.{Lfts}
use borrow.Fn.Kinds.{Dens, ended_of}
use Rattle.std.specs.Prelude.{Result}
use Rattle.refusal.specs.declared.Fault.{Fault}
use Rattle.path.specs.Lent.{path_of}
use Rattle.walk.specs.declared.StepRefusal.{StepRefusal}
use Rattle.walk.specs.Drawn.{outcome_of}
use Rattle.reaches.specs.Lent.{room_reaches}
use Rattle.stations.specs.Placing.{call_of, as_placed, PlaceEnsures}
use Rattle.stations.specs.Stepping.{StepEnsures}
use Rattle.stations.proofs.place.Kinds as place-kinds
use Rattle.stations.proofs.place.Reads as place-reads
use Rattle.stations.proofs.step.Kinds as step-kinds
use Rattle.stations.proofs.step.Reads as step-reads

-- the arguments: vehicle, record, stations asked for, path, and the room of the stations' runs
pub place_tells : (κs : Lfts 4) (a : Dens κs place-kinds.ps) (r : Result (Unit {0}) Fault) (x : AtExit (ended_of 4 place-kinds.ps place-kinds.r) κs) → place-reads.Learnt κs a r x
    → let before = room_reaches a.1.1.1.1.0.now in
    PlaceEnsures a.0 a.1.0.now
    (call_of a.1.1.0 (path_of a.1.1.1.0) before)
    before
    (record { answer = as_placed r; walk = x.1.0.now })
    (room_reaches x.1.1.1.1.0.now)
place_tells κs a r x h = h.1

-- the same without the vehicle
pub step_tells : (κs : Lfts 4) (a : Dens κs step-kinds.ps) (r : Result (Unit {0}) StepRefusal) (x : AtExit (ended_of 4 step-kinds.ps step-kinds.r) κs) → step-reads.Learnt κs a r x
    → let before = room_reaches a.1.1.1.0.now in
    StepEnsures a.0.now
    (call_of a.1.0 (path_of a.1.1.0) before)
    before
    (record { answer = outcome_of r; walk = x.0.now })
    (room_reaches x.1.1.1.0.now)
step_tells κs a r x h = h.1
