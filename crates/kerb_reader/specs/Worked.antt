-- Geometries by their bytes, and what is read of them.
use Rattle.std.specs.Prelude.{ℕ, ◌≡◌, List, [], ◌∷◌, ◌++◌, ℤ, pos}
use Rattle.number.specs.Read.{refused}
use Rattle.kerb_reader.specs.Answers as K
use Rattle.kerb_reader.specs.Geometry.{read_geometry}
use Rattle.kerb_reader.specs.Ticks.{kerb_answer, ticks_in, east_ticks, north_ticks}

-- the point (1, 2) in metres
abbrev pub point_bytes : List ℕ
point_bytes = 1 ∷ 1 ∷ 0 ∷ 0 ∷ 0 ∷ 0 ∷ 0 ∷ 0 ∷ 0 ∷ 0 ∷ 0 ∷ 0xF0 ∷ 0x3F ∷ 0 ∷ 0 ∷ 0 ∷ 0 ∷ 0 ∷ 0 ∷ 0 ∷ 0x40 ∷ []

-- an empty point, whose coordinates are no numbers
abbrev pub empty_point : List ℕ
empty_point = 1 ∷ 1 ∷ 0 ∷ 0 ∷ 0 ∷ 0 ∷ 0 ∷ 0 ∷ 0 ∷ 0 ∷ 0 ∷ 0xF8 ∷ 0x7F ∷ 0 ∷ 0 ∷ 0 ∷ 0 ∷ 0 ∷ 0 ∷ 0xF8 ∷ 0x7F ∷ []

-- the line from (1, 2) to (3, 4), in metres, without its last coordinate, which is 4
abbrev pub line_start : List ℕ
line_start = 1 ∷ 2 ∷ 0 ∷ 0 ∷ 0 ∷ 2 ∷ 0 ∷ 0 ∷ 0 ∷ 0 ∷ 0 ∷ 0 ∷ 0 ∷ 0 ∷ 0 ∷ 0xF0 ∷ 0x3F ∷ 0 ∷ 0 ∷ 0 ∷ 0 ∷ 0 ∷ 0 ∷ 0 ∷ 0x40 ∷ 0 ∷ 0 ∷ 0 ∷ 0 ∷ 0 ∷ 0 ∷ 0x08 ∷ 0x40 ∷ []

abbrev pub line_bytes : List ℕ
line_bytes = line_start ++ (0 ∷ 0 ∷ 0 ∷ 0 ∷ 0 ∷ 0 ∷ 0x10 ∷ 0x40 ∷ [])

-- runs of three entries and of one
abbrev pub entries : List ℤ
entries = pos 7 ∷ pos 7 ∷ pos 7 ∷ []

abbrev pub entry : List ℤ
entry = pos 7 ∷ []

pub record WorkedGeometries : Type 0 where
  pub point : kerb_answer (read_geometry point_bytes) entry entry ≡ K.vertices 1
  pub east : ticks_in (read_geometry point_bytes) east_ticks entry entry entry ≡ pos 10000 ∷ []
  pub north : ticks_in (read_geometry point_bytes) north_ticks entry entry entry ≡ pos 20000 ∷ []
  pub no_room : kerb_answer (read_geometry point_bytes) entry [] ≡ K.refused 21
  -- a line: its vertices in turn, and the entries past them stay
  pub line : kerb_answer (read_geometry line_bytes) entries entries ≡ K.vertices 2
  pub line_east : ticks_in (read_geometry line_bytes) east_ticks entries entries entries ≡ pos 10000 ∷ pos 30000 ∷ pos 7 ∷ []
  pub line_north : ticks_in (read_geometry line_bytes) north_ticks entries entries entries ≡ pos 20000 ∷ pos 40000 ∷ pos 7 ∷ []
  pub line_cut : read_geometry line_start ≡ refused 12 33
  -- a point with heights is of another type, 1001
  pub heights : read_geometry (1 ∷ 0xE9 ∷ 3 ∷ 0 ∷ 0 ∷ []) ≡ refused 12 1
  pub no_number : read_geometry empty_point ≡ refused 13 5
  -- an empty line: no vertices
  pub no_vertices_lem : read_geometry (1 ∷ 2 ∷ 0 ∷ 0 ∷ 0 ∷ 0 ∷ 0 ∷ 0 ∷ 0 ∷ []) ≡ refused 12 5
  -- 501 vertices
  pub too_many : read_geometry (1 ∷ 2 ∷ 0 ∷ 0 ∷ 0 ∷ 0xF5 ∷ 1 ∷ 0 ∷ 0 ∷ []) ≡ refused 12 5
  -- the mark of big-endian bytes
  pub mark : read_geometry (0 ∷ 0 ∷ 0 ∷ 0 ∷ 1 ∷ []) ≡ refused 12 0
  pub no_bytes : read_geometry [] ≡ refused 12 0
  pub left_over : read_geometry (point_bytes ++ (0 ∷ [])) ≡ refused 12 21
