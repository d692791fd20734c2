-- Each requirement of this crate can be met.
use native.Mathlib.Omega.{arith}
use mathlib.Core.List.{[], ◌∷◌}
use lib.Dec.{lit≤}
use lib.IntN.{pos}
use Rattle.metres.specs.Tick.{VertexWithin}
use Rattle.kerb_reader.specs.declared.Geometry.TheVariants as G
use Rattle.kerb_reader.specs.Geometry.{vertices_most, no_vertex, no_vertices}
use Rattle.kerb_reader.specs.Inner.{HeaderWidth, CountInUse, Writable, VerticesWritable, SurveyWithin}
use Rattle.kerb_reader.proofs.EachLaws.{each_replicate}
use Rattle.kerb_reader.proofs.Reaching.{no_vertex_within, no_vertices_within, no_vertices_length}

width_met : HeaderWidth 4
width_met = record { most = omega arith }

count_met : CountInUse vertices_most
count_met = record { most = lit≤ tt }

vertex_met : Writable no_vertex 0 (pos 7 ∷ []) (pos 7 ∷ [])
vertex_met = record { within = no_vertex_within; east = omega arith; north = omega arith }

vertices_met : VerticesWritable no_vertex (no_vertex ∷ []) (pos 7 ∷ pos 7 ∷ []) (pos 7 ∷ pos 7 ∷ [])
vertices_met = record { within = no_vertex_within; others_within = each_replicate VertexWithin 1 no_vertex no_vertex_within; east = omega arith; north = omega arith }

survey_met : SurveyWithin (record { geometry = G.Point no_vertex.x no_vertex.y; vertices = no_vertices })
survey_met = record { size = no_vertices_length; least = omega arith; most = lit≤ tt; first = no_vertex_within; others = no_vertices_within }
