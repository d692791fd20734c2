-- A kerb's geometry in OGC Well-Known Binary, field by field (02, N4): "Fields in order, the reading refuses with 12 for missing or left-over bytes or a wrong byte-order mark, type or count,
-- and with 13 for a coordinate that is not finite or exceeds 15,000 m in size, each placed at the field".
use Rattle.std.specs.Prelude.{ℕ, ◌+◌, Bool, false, List, [], ◌∷◌, leb, eqb, length, get_or, take, drop, replicate, pos, Float}
use Rattle.std.specs.Float.{fin, binary64}
use Rattle.std.specs.Float.Ieee.{of_bits}
use Rattle.number.specs.Read.{Read, got, refused, Reader, pick, ◌>>=◌, return, here, unless, many, into}
use Rattle.job.specs.Allowed.{between}
use Rattle.metres.specs.Bytes.{little_endian}
use Rattle.metres.specs.Tick.{metres_most, size_at_most}
use Rattle.metres.specs.declared.Vertex.{Vertex}
use Rattle.kerb_reader.specs.declared.Geometry.{Geometry}
use Rattle.kerb_reader.specs.declared.Geometry.TheVariants as G
use Rattle.kerb_reader.specs.declared.Survey.{Survey}

-- n bytes, lowest first; bytes that end before the field does are "missing"
unfoldable pub bytes_field : ℕ → Reader ℕ
bytes_field n s at = pick (leb (at + n) (length s)) (got (little_endian n s at) (at + n)) (refused 12 at)

-- a mark, type or count, with the test of a right one
unfoldable pub header : ℕ → (ℕ → Bool) → Reader ℕ
header n right = do
  at ← here
  value ← bytes_field n
  unless (right value) 12 at (return value)

-- "each coordinate is a 64-bit float in metres"; what is not finite is not at most 15,000 in size
unfoldable pub coordinate : Reader Float
coordinate = do
  at ← here
  bits ← bytes_field 8
  unless (size_at_most metres_most (of_bits binary64 bits)) 13 at (return (of_bits binary64 bits))

unfoldable pub read_vertex : Reader Vertex
read_vertex = do
  x ← coordinate
  y ← coordinate
  return (record { x = x; y = y })

-- "2 to 500 vertices"
abbrev pub vertices_most : ℕ
vertices_most = 500

-- a vertex that was not read, and as many as a line can have
abbrev pub no_vertex : Vertex
no_vertex = record { x = fin false 0 (pos 0); y = fin false 0 (pos 0) }

unfoldable pub no_vertices : List Vertex
no_vertices = replicate vertices_most no_vertex

-- "a point with its coordinates"; no other vertex stands beside it
unfoldable pub read_point : Reader Survey
read_point = do
  v ← read_vertex
  return (record { geometry = G.Point v.x v.y; vertices = no_vertices })

-- so many vertices, one after the other; the rest of the 500 are zero
unfoldable pub read_vertices : ℕ → Reader (List Vertex)
read_vertices count s at = into no_vertices 0 (many (λ (i : ℕ). read_vertex) (λ i v. i + 1) (λ i. return []) count 0 s at)

-- "or a line with its first vertex and its count": all its vertices stand beside it
unfoldable pub read_line : Reader Survey
read_line = do
  count ← header 4 (between 2 vertices_most)
  vertices ← read_vertices count
  return (record { geometry = G.Line (get_or vertices 0 no_vertex) count; vertices = vertices })

-- "Take in a point (type 1) or a line string (type 2, 2 to 500 vertices)"
abbrev pub read_shape : ℕ → Reader Survey
read_shape type = λ s at. pick (eqb type 1) (read_point s at) (read_line s at)

-- "Well-Known Binary, little-endian": its byte-order mark is 1
unfoldable pub read_survey : Reader Survey
read_survey = do
  mark ← header 1 (eqb 1)
  type ← header 4 (between 1 2)
  read_shape type

-- "left-over bytes"
abbrev pub read_end : Survey → Reader Survey
read_end g s at = pick (eqb at (length s)) (got g at) (refused 12 at)

unfoldable pub read_geometry : List ℕ → Read Survey
read_geometry s = (read_survey >>= read_end) s 0

-- the vertices of what was read, in turn
abbrev pub vertices_by : Geometry → List Vertex → List Vertex
vertices_by (G.Point x y) vs = record { x = x; y = y } ∷ []
vertices_by (G.Line first count) vs = first ∷ drop 1 (take count vs)

abbrev pub vertices_of : Survey → List Vertex
vertices_of g = vertices_by g.geometry g.vertices
