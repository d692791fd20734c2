-- `job_writer::encode::Encoded::put_start` meets its contract. Assumes nothing.
use borrow.Author.Rules.{rules}
use mathlib.Core.Path.{◌≡◌}
use mathlib.Core.List.{◌++◌}
use mir.Syntax.{w32}
use mir.Val.{to_z, of_z}
use Rattle.number.specs.Signed.{write_signed}
use Rattle.job_writer.proofs.AppendLaws.{join, then}
use Rattle.job_writer.proofs.encode.Encoded.put_start.Goals as goal

pub put_signed-requires-4 : goal.put_signed-requires-4
put_signed-requires-4 c = let s = c.args.s in
    let x : to_z w32 (of_z w32 s.x) ≡ s.x = search rules in
    let y : to_z w32 (of_z w32 s.y) ≡ s.y = search rules in
    let gx : to_z w32 (of_z w32 s.gx) ≡ s.gx = search rules in
    let gy : to_z w32 (of_z w32 s.gy) ≡ s.gy = search rules in
    let after_x = then _ (write_signed s.x) (write_signed s.y ++ (write_signed s.gx ++ write_signed s.gy)) (rw x at c.put_signed.ensures) c.requires.ends in
    let after_y = then _ (write_signed s.y) (write_signed s.gx ++ write_signed s.gy) (rw y at c.put_signed-2.ensures) after_x.ends in
    rw gy (then _ (write_signed s.gx) (write_signed s.gy) (rw gx at c.put_signed-3.ensures) after_y.ends)

pub returns : goal.returns
returns c = let s = c.args.s in
    let x : to_z w32 (of_z w32 s.x) ≡ s.x = search rules in
    let y : to_z w32 (of_z w32 s.y) ≡ s.y = search rules in
    let gx : to_z w32 (of_z w32 s.gx) ≡ s.gx = search rules in
    let gy : to_z w32 (of_z w32 s.gy) ≡ s.gy = search rules in
    join _ (write_signed s.x) _ (rw x at c.put_signed.ensures)
    (join _ (write_signed s.y) _ (rw y at c.put_signed-2.ensures)
    (join _ (write_signed s.gx) _ (rw gx at c.put_signed-3.ensures) (rw gy at c.put_signed-4.ensures)))
