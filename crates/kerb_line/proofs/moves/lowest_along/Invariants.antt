-- `kerb_line::moves::lowest_along` meets its contract: what is lowest of the rest, below the lowest so far, or else the lowest so far is lowest of all.
use Prim.Native.Nat.{◌-◌}
use Rattle.kerb_line.specs.Lent.{runs_of}
use Rattle.kerb_line.proofs.AlongLaws.{Along}
use Rattle.kerb_line.proofs.moves.lowest_along.Given as goal

abbrev pub invariant-loop-i : goal.invariant-loop-i
invariant-loop-i l = Along l.olds l.news (runs_of l.kerb) l.kerb.count l.lowest l.v (l.i - 1)
