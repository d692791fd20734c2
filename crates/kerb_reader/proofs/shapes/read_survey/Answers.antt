-- `kerb_reader::shapes::read_survey` meets its contract.
use borrow.Author.Tests.{eq-eqb, ne_eqb}
use Rattle.std.proofs.lemmas.Result.{err_from_is_err_and}
use Rattle.kerb_reader.specs.Geometry.{read_survey}
use Rattle.kerb_reader.proofs.FieldLaws.{mark_is}
use Rattle.kerb_reader.proofs.shapes.read_survey.Goals as goal

pub returns-in_err-after_mark : goal.returns-in_err-after_mark
unfolding read_survey
returns-in_err-after_mark c =
    let p = err_from_is_err_and c.from_residual.result c.from_residual.ensures.1 in
    rw (p.1, p.2, mark_is, ← c.in_err-after_mark.ensures)

pub returns-in_err-kind : goal.returns-in_err-kind
unfolding read_survey
returns-in_err-kind c =
    let p = err_from_is_err_and c.from_residual-in_err-kind.result c.from_residual-in_err-kind.ensures.1 in
    rw (p.1, p.2, mark_is, ← c.in_ok-after_mark.ensures, ← c.in_err-kind.ensures)

pub returns-then-kind-eq1 : goal.returns-then-kind-eq1
unfolding read_survey
returns-then-kind-eq1 c = rw (c.read_point.ensures, mark_is, ← c.in_ok-after_mark.ensures, ← c.in_ok-kind.ensures, eq-eqb _ _ c.if-kind-eq1.true)

pub returns-else-kind-eq1 : goal.returns-else-kind-eq1
unfolding read_survey
returns-else-kind-eq1 c = rw (c.read_line.ensures, mark_is, ← c.in_ok-after_mark.ensures, ← c.in_ok-kind.ensures, ne_eqb _ _ c.if-kind-eq1.false)
