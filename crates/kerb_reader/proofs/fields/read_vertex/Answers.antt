-- `kerb_reader::fields::read_vertex` meets its contract.
use Rattle.std.proofs.lemmas.Result.{err_from_is_err_and}
use Rattle.kerb_reader.specs.Geometry.{read_vertex}
use Rattle.kerb_reader.proofs.fields.read_vertex.Goals as goal

pub returns-in_err-x : goal.returns-in_err-x
unfolding read_vertex
returns-in_err-x c =
    let p = err_from_is_err_and c.from_residual.result c.from_residual.ensures.1 in
    rw (p.1, p.2, ← c.in_err-x.ensures)

pub returns-in_err-y : goal.returns-in_err-y
unfolding read_vertex
returns-in_err-y c =
    let p = err_from_is_err_and c.from_residual-in_err-y.result c.from_residual-in_err-y.ensures.1 in
    rw (p.1, p.2, ← c.in_ok-x.ensures, ← c.in_err-y.ensures)

pub returns : goal.returns
unfolding read_vertex
returns c = rw (← c.in_ok-x.ensures, ← c.in_ok-y.ensures)
