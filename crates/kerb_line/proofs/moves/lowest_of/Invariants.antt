-- `kerb_line::moves::lowest_of` meets its contract: no move before p touches the segment.
use Prim.Native.Nat.{ℕ, ◌<◌}
use mathlib.Core.Path.{◌≡◌}
use mathlib.Core.Bool.{false}
use Rattle.kerb_line.specs.Inner.{move_touches}
use Rattle.kerb_line.proofs.moves.lowest_of.Given as goal

abbrev pub invariant-loop-p : goal.invariant-loop-p
invariant-loop-p l = (q : ℕ) → q < l.p → move_touches l.olds l.news l.v l.w q ≡ false
