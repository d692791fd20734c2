-- `kerb_reader::shapes::read_point` meets its contract.
use Rattle.std.proofs.lemmas.Result.{err_from_is_err_and}
use Rattle.kerb_reader.specs.Geometry.{read_point}
use Rattle.kerb_reader.proofs.shapes.read_point.Goals as goal

pub returns-in_err-v : goal.returns-in_err-v
unfolding read_point
returns-in_err-v c =
    let p = err_from_is_err_and c.from_residual.result c.from_residual.ensures.1 in
    rw (p.1, p.2, ← c.in_err-v.ensures)

pub returns : goal.returns
unfolding read_point
returns c = rw (c.empty_vertices-vertices.ensures, ← c.in_ok-v.ensures)
