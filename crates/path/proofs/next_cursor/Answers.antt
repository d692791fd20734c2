-- `path::next_cursor` meets its contract.
use Prim.Native.Nat.{◌+◌}
use mathlib.Core.Path.{◌≡◌, ◌∙◌}
use Rattle.path.specs.Cursor.{step_length, cursor_after}
use native.Mathlib.Omega.{arith}
use borrow.Author.Tests.{lt-ltb, le-ltb}
use Rattle.path.proofs.CursorLaws.{least_is}
use Rattle.path.proofs.next_cursor.Goals as goal

pub returns-then-behind-e : goal.returns-then-behind-e
unfolding cursor_after
returns-then-behind-e c =
    let s : c.min-s.result ≡ step_length c.args.e.length c.args.c.before c.args.step = c.min-s.ensures ∙ least_is _ _ in
    rw (← s, lt-ltb (c.args.c.before + c.min-s.result) c.args.e.length (omega arith), c.next_station-station.ensures)

pub returns : goal.returns
unfolding cursor_after
returns c =
    let s : c.min-s.result ≡ step_length c.args.e.length c.args.c.before c.args.step = c.min-s.ensures ∙ least_is _ _ in
    rw (← s, le-ltb (c.args.c.before + c.min-s.result) c.args.e.length (omega arith), c.next_station-station.ensures)
