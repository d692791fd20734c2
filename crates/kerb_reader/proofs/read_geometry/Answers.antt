-- `kerb_reader::read_geometry` meets its contract.
use borrow.Author.Tests.{eq-eqb, ne_eqb}
use Rattle.std.proofs.lemmas.Result.{err_from_is_err_and}
use Rattle.kerb_reader.specs.Geometry.{read_geometry}
use Rattle.kerb_reader.proofs.read_geometry.Goals as goal

pub returns-in_err-survey : goal.returns-in_err-survey
unfolding read_geometry
returns-in_err-survey c =
    let p = err_from_is_err_and c.from_residual.result c.from_residual.ensures.1 in
    rw (p.1, p.2, ← c.in_err-survey.ensures)

pub returns-then-end-bytes : goal.returns-then-end-bytes
unfolding read_geometry
returns-then-end-bytes c = rw (← c.in_ok-survey.ensures, eq-eqb _ _ c.if-end-bytes.true, c.if-end-bytes.true)

pub returns-else-end-bytes : goal.returns-else-end-bytes
unfolding read_geometry
returns-else-end-bytes c = rw (c.at.ensures, ← c.in_ok-survey.ensures, ne_eqb _ _ c.if-end-bytes.false)
