-- `job_writer::encode::Encoded::put_unit` meets its contract. Assumes nothing.
use borrow.Author.Rules.{rules}
use mathlib.Core.Path.{◌≡◌}
use mir.Syntax.{w32}
use mir.Val.{to_z, of_z}
use Rattle.number.specs.Number.{write_number}
use Rattle.number.specs.Signed.{write_signed}
use Rattle.job_writer.proofs.AppendLaws.{join}
use Rattle.job_writer.proofs.encode.Encoded.put_unit.Goals as goal

pub returns : goal.returns
returns c = let u = c.args.u in
    let h : to_z w32 (of_z w32 u.hitch) ≡ u.hitch = search rules in
    let f : to_z w32 (of_z w32 u.fold) ≡ u.fold = search rules in
    join _ (write_number u.wheelbase) _ c.put_number.ensures
    (join _ (write_signed u.hitch) _ (rw h at c.put_signed.ensures)
    (join _ (write_signed u.fold) _ (rw f at c.put_signed-2.ensures) c.put_body.ensures))
