-- What the functions that are no entries require of their callers, and what those that write ensure.
use Rattle.std.specs.Prelude.{ℕ, ◌≤◌, ◌<◌, ◌≡◌, List, ◌∷◌, map, length, get_or, set, ℤ, Result}
use Rattle.std.proofs.lemmas.List.Edits.{sets}
use Rattle.number.specs.Read.{got}
use Rattle.metres.specs.Tick.{tick_of, VertexWithin}
use Rattle.metres.specs.declared.Vertex.{Vertex}
use Rattle.kerb_reader.specs.declared.Geometry.{Geometry}
use Rattle.kerb_reader.specs.declared.Geometry.TheVariants as G
use Rattle.kerb_reader.specs.declared.Survey.{Survey}
use Rattle.kerb_reader.specs.declared.KerbRefusal.{KerbRefusal}
use Rattle.kerb_reader.specs.Geometry.{no_vertex, vertices_most}
use Rattle.kerb_reader.specs.Answers.{as_kerb}
use Rattle.kerb_reader.specs.Ticks.{east_of, north_of, east_ticks, north_ticks, kerb_answer, ticks_in}

-- a mark, type or count has at most four bytes
pub record HeaderWidth (n : ℕ) : Type 0 where
  pub most : n ≤ 4

pub record CountInUse (count : ℕ) : Type 0 where
  pub most : count ≤ vertices_most

-- the first vertex of a geometry, and how many it has
abbrev pub first_of : Geometry → Vertex
first_of (G.Point x y) = record { x = x; y = y }
first_of (G.Line first count) = first

abbrev pub count_of : Geometry → ℕ
count_of (G.Point x y) = 1
count_of (G.Line first count) = count

-- what writing one vertex asks and does
pub record Writable (v : Vertex) (i : ℕ) (xs ys : List ℤ) : Type 0 where
  pub within : VertexWithin v
  pub east : i < length xs
  pub north : i < length ys

pub record VertexWritten (v : Vertex) (i : ℕ) (xs ys xs' ys' : List ℤ) : Type 0 where
  pub east : xs' ≡ set xs i (tick_of v.x)
  pub north : ys' ≡ set ys i (tick_of v.y)

-- the same of all vertices: the first, then the others
pub record VerticesWritable (first : Vertex) (others : List Vertex) (xs ys : List ℤ) : Type 0 where
  pub within : VertexWithin first
  pub others_within : (i : ℕ) → VertexWithin (get_or others i no_vertex)
  pub east : length others < length xs
  pub north : length others < length ys

pub record VerticesWritten (first : Vertex) (others : List Vertex) (xs ys xs' ys' : List ℤ) : Type 0 where
  pub east : xs' ≡ sets xs 0 (map east_of (first ∷ others))
  pub north : ys' ≡ sets ys 0 (map north_of (first ∷ others))

-- what was read has 1 to 500 vertices, none farther than 15,000 m
pub record SurveyWithin (g : Survey) : Type 0 where
  pub size : length g.vertices ≡ vertices_most
  pub least : 1 ≤ count_of g.geometry
  pub most : count_of g.geometry ≤ vertices_most
  pub first : VertexWithin (first_of g.geometry)
  pub others : (i : ℕ) → VertexWithin (get_or g.vertices i no_vertex)

pub record SurveyWritten (g : Survey) (xs ys : List ℤ) (r : Result ℕ KerbRefusal) (xs' ys' : List ℤ) : Type 0 where
  pub answer : as_kerb r ≡ kerb_answer (got g 0) xs ys
  pub east : xs' ≡ ticks_in (got g 0) east_ticks xs ys xs
  pub north : ys' ≡ ticks_in (got g 0) north_ticks xs ys ys
