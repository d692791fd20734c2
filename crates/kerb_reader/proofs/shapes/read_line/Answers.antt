-- `kerb_reader::shapes::read_line` meets its contract.
use Prim.Native.Nat.{◌<◌}
use mathlib.Core.Path.{◌≡◌}
use native.Mathlib.Omega.{arith}
use borrow.Author.Rules.{rules}
use lib.ListN.{length}
use Rattle.std.proofs.lemmas.List.{get_or_default}
use Rattle.std.proofs.lemmas.Result.{err_from_is_err_and}
use Rattle.job.proofs.Arrays.{unmapped}
use Rattle.kerb_reader.specs.Geometry.{no_vertex, read_line}
use Rattle.kerb_reader.proofs.FieldLaws.{in_use}
use Rattle.kerb_reader.proofs.shapes.read_line.Goals as goal

pub returns-in_err-n : goal.returns-in_err-n
unfolding read_line
returns-in_err-n c =
    let p = err_from_is_err_and c.from_residual.result c.from_residual.ensures.1 in
    rw (p.1, p.2, ← c.in_err-n.ensures)

pub read_vertices-requires : goal.read_vertices-requires
read_vertices-requires c = record { most = in_use _ _ _ _ c.in_ok-n.ensures }

pub returns-in_err-vertices : goal.returns-in_err-vertices
unfolding read_line
returns-in_err-vertices c =
    let p = err_from_is_err_and c.from_residual-in_err-vertices.result c.from_residual-in_err-vertices.ensures.1 in
    rw (p.1, p.2, ← c.in_ok-n.ensures, ← c.in_err-vertices.ensures)

pub returns : goal.returns
unfolding read_line
returns c =
    let vs = c.in_ok-vertices.vertices in
    let places : length vs ≡ 500 = search (rules, unmapped) in
    let some : 0 < length vs = omega arith in
    rw (get_or_default vs 0 _ no_vertex some, ← c.in_ok-n.ensures, ← c.in_ok-vertices.ensures)
