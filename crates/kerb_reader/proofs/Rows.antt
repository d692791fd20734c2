-- The worked geometries, by computing. Only here is the rule for halves unfolded.
use mathlib.Core.Path.{refl}
use lib.Ieee.{of_bits, mul}
use Rattle.exact.specs.Nearest.{half_to, nearest_size, nearest_z}
use Rattle.number.specs.Read.{many}
use Rattle.metres.specs.Bytes.{little_endian}
use Rattle.metres.specs.Tick.{size_at_most, nearest_whole, tick_of}
use Rattle.kerb_reader.specs.Geometry.{bytes_field, header, coordinate, read_vertex, no_vertices, read_point, read_vertices, read_line, read_survey, read_geometry}
use Rattle.kerb_reader.specs.Worked.{WorkedGeometries}

pub worked : WorkedGeometries
unfolding many bytes_field header coordinate read_vertex no_vertices read_point read_vertices read_line read_survey read_geometry little_endian size_at_most of_bits tick_of nearest_whole nearest_z nearest_size half_to mul
worked = record { point = refl; east = refl; north = refl; no_room = refl; line = refl; line_east = refl; line_north = refl; line_cut = refl; heights = refl; no_number = refl; no_vertices_lem = refl; too_many = refl; mark = refl; no_bytes = refl; left_over = refl }
