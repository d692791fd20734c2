-- `text::put_digits` meets its contract. Assumes nothing.
use Prim.Native.Nat.{◌-◌}
use Rattle.text.proofs.Writing.{Filling}
use Rattle.text.proofs.put_digits.Given as goal

abbrev pub invariant-loop-place : goal.invariant-loop-place
invariant-loop-place l = Filling l.initial.run l.at l.count l.n l.run (l.place - l.at) l.y
