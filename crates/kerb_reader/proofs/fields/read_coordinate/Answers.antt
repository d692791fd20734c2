-- `kerb_reader::fields::read_coordinate` meets its contract, test by test.
use mathlib.Core.Path.{sym, ◌∙◌}
use Rattle.kerb_reader.proofs.FieldLaws.{coordinate_short, coordinate_none, coordinate_far, coordinate_read}
use Rattle.kerb_reader.proofs.fields.read_coordinate.Goals as goal
use Rattle.kerb_reader.proofs.fields.read_coordinate.Goals.{in_default-via-in-Some+else-within_limit, in_default-via-in_default}

pub returns-then-not-has_bytes : goal.returns-then-not-has_bytes
returns-then-not-has_bytes c = rw c.at.ensures (sym (coordinate_short _ c.args.c.at (sym c.has_bytes.ensures ∙ c.if-not-has_bytes.true)))

pub returns-in-Some : goal.returns-in-Some
returns-in-Some c = sym (coordinate_read _ c.args.c.at c.in-Some.x (sym c.if-not-has_bytes.ensures) (sym c.in-Some.ensures) (sym c.if-within_limit.ensures))

pub returns-in_default : goal.returns-in_default
returns-in_default c =
    let there = sym c.if-not-has_bytes.ensures in
    rw c.at-in_default.ensures
    (elim c.in_default.branch [
      | in_default-via-in-Some+else-within_limit w ↦ sym (coordinate_far _ c.args.c.at w.in-Some.x there (sym w.in-Some.ensures) (sym w.if-within_limit.ensures))
      | in_default-via-in_default w ↦ sym (coordinate_none _ c.args.c.at there (sym w.in_default.ensures))
    ])
