-- `answer_run::put_entries` meets its contract: the part of the run that is written holds the entries.
use Prim.Native.Nat.{ℕ, ◌+◌, ◌-◌, ◌≤◌}
use mathlib.Core.Path.{◌≡◌, sym, ◌∙◌, ap}
use mathlib.Core.List.{List, append_assoc}
use native.Mathlib.Omega.{arith}
use borrow.Rule.Slice.PartMut.{put_mid}
use lib.IntN.{ℤ}
use lib.ListN.{length, drop, length-take, length-drop}
use lib.Seq.{sets, sets-eq, drop-drop}
use Rattle.answer_run.proofs.put_entries.Goals as goal

laid : (run es : List ℤ) (at n : ℕ) → at + n ≤ length run → length es ≡ n → put_mid at (at + n - at) run es ≡ sets run at es
laid run es at n h k =
    let e : at + n - at ≡ n = omega arith in
    rw (e, sets-eq es run at (omega (arith, k)), drop-drop n at run, append_assoc, k)

pub returns : goal.returns
returns g c =
    let w = c.copy_from_slice.ensures in
    let run = c.args.run.now in
    let k : length c.args.entries ≡ g.row.N = ap length (sym w.after) ∙ w.len ∙ omega (arith, length-take g.row.N (drop c.args.at run), length-drop c.args.at run, c.requires.room) in
    rw w.after (laid run c.args.entries c.args.at g.row.N c.requires.room k)
