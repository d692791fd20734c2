-- `text::put_digits` meets its contract: the digits before the place are left to write.
use native.Mathlib.Omega.{arith}
use Prim.Native.Nat.{◌+◌, ◌≤◌}
use lib.ListN.{length}
use borrow.Author.Rules.{rules}
use Rattle.text.proofs.DecimalLaws.{digits_length}
use Rattle.text.proofs.Writing.{fill_start, fill_next, fill_end}
use Rattle.text.proofs.put_digits.Goals as goal

pub overflow_step-place : goal.overflow_step-place
overflow_step-place c =
    let h : c.args.at + c.args.count ≤ length c.args.run.now = omega (arith, digits_length c.args.count c.args.n, c.requires.ends) in
    search rules

pub loop-place-init : goal.loop-place-init
loop-place-init c = fill_start _ _ _ _ c.requires.ends

pub loop-place-preserved : goal.loop-place-preserved
loop-place-preserved c = fill_next _ _ _ _ _ _ _ c.loop-place-test.true c.loop-place.invariant

pub returns : goal.returns
returns c = (rw digits_length, fill_end _ _ _ _ _ _ _ (omega arith) c.loop-place.invariant)
