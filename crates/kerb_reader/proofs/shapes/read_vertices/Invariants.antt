-- `kerb_reader::shapes::read_vertices` meets its contract: the vertices from the index on are still to be read.
use Prim.Native.Nat.{ℕ, ◌-◌, ◌+◌}
use mathlib.Core.Path.{◌≡◌}
use mathlib.Core.List.{List, [], ◌++◌}
use lib.ListN.{drop}
use Rattle.number.specs.Read.{Reader, return, many, into}
use Rattle.metres.specs.declared.Vertex.{Vertex}
use Rattle.kerb_reader.specs.Geometry.{read_vertex, no_vertices, read_vertices}
use Rattle.kerb_reader.proofs.shapes.read_vertices.Given as goal

abbrev pub one : ℕ → Reader Vertex
one i = read_vertex

abbrev pub next : ℕ → Vertex → ℕ
next i v = i + 1

abbrev pub end : ℕ → Reader (List Vertex)
end i = return []

abbrev pub invariant-loop-vertex : goal.invariant-loop-vertex
invariant-loop-vertex l =
    into (l.vertex-items ++ drop l.count no_vertices) l.vertex-index (many one next end (l.count - l.vertex-index) l.vertex-index l.s l.at.at) ≡ read_vertices l.count l.s l.fn.c.at
