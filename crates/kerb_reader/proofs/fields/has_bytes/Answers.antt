-- `kerb_reader::fields::has_bytes` meets its contract.
use Prim.Native.Nat.{ℕ, ◌+◌, ◌-◌, ◌≤◌, ◌<◌}
use mathlib.Core.Path.{◌≡◌, sym}
use native.Mathlib.Omega.{arith}
use native.Mathlib.Decide.{dec_le}
use borrow.Author.Tests.{le-leb, lt-leb}
use lib.Dec.{leb}
use Rattle.kerb_reader.proofs.fields.has_bytes.Goals as goal

-- the test with what is left on one side, and on the other
left_over : (size at n : ℕ) → n ≤ size → leb at (size - n) ≡ leb (at + n) size
left_over size at n h = by (dec_le at (size - n))
  where
    by : Dec (at ≤ size - n) → leb at (size - n) ≡ leb (at + n) size
    by (yes k) = rw (le-leb at (size - n) k, le-leb (at + n) size (omega arith))
    by (no k) = rw (lt-leb at (size - n) (omega arith), lt-leb (at + n) size (omega arith))

pub returns-then-n-size : goal.returns-then-n-size
returns-then-n-size c = left_over _ _ _ c.if-n-size.true

pub returns-else-n-size : goal.returns-else-n-size
returns-else-n-size c =
    let a = c.args in
    let h : a.size < a.at + a.n = omega (arith, c.if-n-size.false) in
    rw (lt-leb _ _ c.if-n-size.false) (sym (lt-leb _ _ h))
