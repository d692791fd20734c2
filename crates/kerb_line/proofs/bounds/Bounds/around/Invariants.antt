-- `kerb_line::bounds::Bounds::around` meets its contract: the places before the index are taken in.
use Rattle.kerb_line.specs.Inner.{TakesAllIn}
use Rattle.kerb_line.proofs.bounds.Bounds.around.Given as goal

abbrev pub invariant-loop-place : goal.invariant-loop-place
invariant-loop-place l = TakesAllIn l.fn.self l.places l.place-index l.bounds
