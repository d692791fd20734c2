-- `number::read` meets its contract. Assumes nothing.
use Prim.Native.Nat.{◌≤◌}
use native.Mathlib.Omega.{arith}
use borrow.Author.Tests.{lt-ltb, le-ltb}
use Rattle.std.proofs.lemmas.Result.{err_from_is_err_and}
use Rattle.number.specs.Number.{read_number}
use Rattle.number.proofs.read.Goals as goal

pub returns-in_err-v : goal.returns-in_err-v
unfolding read_number
returns-in_err-v c =
    let p = err_from_is_err_and c.from_residual.result c.from_residual.ensures.1 in
    λ own. rw (p.1, p.2, ← c.in_err-v.ensures own)

pub returns-in-Ok : goal.returns-in-Ok
unfolding read_number
returns-in-Ok c = λ own. rw (← c.in_ok-v.ensures own, lt-ltb _ _ c.in-Ok.ensures.0, c.in-Ok.ensures.1)

pub returns-in-Err : goal.returns-in-Err
unfolding read_number
returns-in-Err c =
    let h : 4294967296 ≤ c.in_ok-v.v = omega (arith, c.in-Err.ensures) in
    λ own. rw (c.at.ensures, ← c.in_ok-v.ensures own, le-ltb _ _ h)
