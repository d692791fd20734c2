-- `kerb_reader::shapes::read_vertices` meets its contract: the vertices from the index on are still to be read.
use Prim.Native.Nat.{◌+◌, ◌-◌}
use native.Mathlib.Omega.{arith}
use native.Mathlib.Nat.{sub-zero}
use mathlib.Core.Path.{◌≡◌, ◌∙◌, sym, ap}
use mathlib.Core.List.{List, ◌++◌}
use lib.ListN.{length, length-take, drop}
use Rattle.std.proofs.lemmas.List.{take-append-drop, set-append_left}
use Rattle.std.proofs.lemmas.Result.{err_from_is_err_and}
use Rattle.number.specs.Read.{many, into}
use Rattle.number.proofs.ManyLaws.{into_end, into_more, into_refused}
use Rattle.metres.specs.declared.Vertex.{Vertex}
use Rattle.kerb_reader.specs.Geometry.{no_vertices, read_vertices}
use Rattle.kerb_reader.proofs.Reaching.{no_vertices_length}
use Rattle.kerb_reader.proofs.shapes.read_vertices.Invariants.{one, next, end}
use Rattle.kerb_reader.proofs.shapes.read_vertices.Goals as goal
use Rattle.kerb_reader.proofs.shapes.read_vertices.Goals.{At-loop-vertex}

-- there are as many places as vertices are asked for
places : (c : At-loop-vertex) → length c.loop-vertex.vertex-items ≡ c.args.count
places c = let e = c.empty_vertices-vertices.ensures in omega (arith, length-take c.args.count c.empty_vertices-vertices.result, ap length e, no_vertices_length, c.requires.most)

pub loop-vertex-init : goal.loop-vertex-init
unfolding read_vertices
loop-vertex-init c = rw (c.empty_vertices-vertices.ensures, take-append-drop, sub-zero)

pub returns-in_err-v : goal.returns-in_err-v
returns-in_err-v c =
    let p = err_from_is_err_and c.from_residual.result c.from_residual.ensures.1 in
    let l = c.loop-vertex in
    let n : length l.vertex-items ≡ c.args.count = places (goal.at.returns-in_err-v c).At-loop-vertex in
    rw (p.1, p.2) (sym (into_refused one next end _ (l.vertex-items ++ drop c.args.count no_vertices) _ l.vertex-index _ l.vertex-index (omega arith) c.in_err-v.ensures) ∙ l.invariant)

pub loop-vertex-preserved : goal.loop-vertex-preserved
loop-vertex-preserved c =
    let l = c.loop-vertex in
    let n : length l.vertex-items ≡ c.args.count = places (goal.at.loop-vertex-preserved c).At-loop-vertex in
    let rest = drop c.args.count no_vertices in
    let laid = set-append_left l.vertex-items rest l.vertex-index c.in_ok-v.v (omega arith) in
    ap (λ (vs : List Vertex). into vs (l.vertex-index + 1) (many one next end (c.args.count - (l.vertex-index + 1)) (l.vertex-index + 1) c.args.s.now c.in_ok-v.next.at)) (sym laid)
    ∙ sym (into_more one next end _ (l.vertex-items ++ rest) _ l.vertex-index _ l.vertex-index (omega arith) c.in_ok-v.ensures) ∙ l.invariant

pub returns : goal.returns
returns c =
    let l = c.loop-vertex in
    let n : length l.vertex-items ≡ c.args.count = places (goal.at.returns c).At-loop-vertex in
    rw c.empty_vertices-vertices.ensures (sym (into_end one next end _ (l.vertex-items ++ drop c.args.count no_vertices) _ l.vertex-index _ l.vertex-index (omega arith)) ∙ l.invariant)
