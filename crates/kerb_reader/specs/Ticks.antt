-- A kerb's ticks in two lent runs (02, N4): "A vertex is kept as its two floats until the whole geometry has been read"; "then with 21 if the two lent runs for ticks are too short".
use Rattle.std.specs.Prelude.{ℕ, ◌≡◌, Bool, ◌&&◌, List, map, leb, length, ℤ, Result}
use Rattle.std.proofs.lemmas.List.Edits.{sets}
use Rattle.number.specs.Read.{Read, got, refused, pick}
use Rattle.metres.specs.Tick.{tick_of}
use Rattle.metres.specs.declared.Vertex.{Vertex}
use Rattle.kerb_reader.specs.declared.Survey.{Survey}
use Rattle.kerb_reader.specs.declared.KerbRefusal.{KerbRefusal}
use Rattle.kerb_reader.specs.Geometry.{vertices_of, read_geometry}
use Rattle.kerb_reader.specs.Answers.{KerbRead, as_kerb}
use Rattle.kerb_reader.specs.Answers as K

-- "if the two lent runs for ticks are too short"
abbrev pub room_in : ℕ → List ℤ → List ℤ → Bool
room_in n xs ys = leb n (length xs) && leb n (length ys)

abbrev pub east_of : Vertex → ℤ
east_of v = tick_of v.x

abbrev pub north_of : Vertex → ℤ
north_of v = tick_of v.y

abbrev pub east_ticks : Survey → List ℤ
east_ticks g = map east_of (vertices_of g)

abbrev pub north_ticks : Survey → List ℤ
north_ticks g = map north_of (vertices_of g)

-- how many vertices there are; or the number of a refusal, with its place unless it is 21
abbrev pub kerb_answer : Read Survey → List ℤ → List ℤ → KerbRead
kerb_answer (got g e) xs ys = pick (room_in (length (vertices_of g)) xs ys) (K.vertices (length (vertices_of g))) (K.refused 21)
kerb_answer (refused n p) xs ys = K.refused_at n p

-- a run with ticks at its start; a refusal leaves it as it was
abbrev pub ticks_in : Read Survey → (Survey → List ℤ) → List ℤ → List ℤ → List ℤ → List ℤ
ticks_in (got g e) ticks xs ys run = pick (room_in (length (vertices_of g)) xs ys) (sets run 0 (ticks g)) run
ticks_in (refused n p) ticks xs ys run = run

-- what reading a kerb from the bytes s into two lent runs comes to
pub record KerbEnsures (s : List ℕ) (xs ys : List ℤ) (r : Result ℕ KerbRefusal) (xs' ys' : List ℤ) : Type 0 where
  pub answer : as_kerb r ≡ kerb_answer (read_geometry s) xs ys
  pub east : xs' ≡ ticks_in (read_geometry s) east_ticks xs ys xs
  pub north : ys' ≡ ticks_in (read_geometry s) north_ticks xs ys ys
