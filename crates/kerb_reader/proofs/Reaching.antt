-- How far the readers of a geometry look, and what they let through: vertices no farther than 15,000 m, and 1 to 500 of them.
use Prim.Native.Nat.{ℕ, zero, suc, ◌+◌, ◌*◌, ◌≤◌}
use mathlib.Core.Path.{◌≡◌, refl, sym, ◌∙◌, ap, subst}
use mathlib.Core.List.{List, [], ◌∷◌}
use mathlib.Core.Bool.{Bool, true, false}
use native.Mathlib.Omega.{arith}
use borrow.Author.Tests.{le-leb, leb-true}
use lib.Dec.{T, leb, eqb, lit≤}
use lib.ListN.{length, length-replicate}
use lib.Seq.{sets, length-sets}
use lib.Ieee.{Float, binary64, of_bits}
use Rattle.std.proofs.lemmas.Bool.{and_parts}
use Rattle.number.specs.Read.{Read, got, refused, Reader, pick, return, many, into}
use Rattle.number.proofs.Codec.{chosen}
use Rattle.number.proofs.Locality.{Agree, Local, wider, after, tested}
use Rattle.metres.specs.Bytes.{little_endian}
use Rattle.metres.specs.Tick.{metres_most, size_at_most, Sized, VertexWithin}
use Rattle.metres.specs.declared.Vertex.{Vertex}
use Rattle.kerb_reader.specs.Geometry.{bytes_field, header, coordinate, read_vertex, vertices_most, no_vertex, no_vertices, read_point, read_vertices, read_line, read_shape, read_survey}
use Rattle.kerb_reader.specs.Inner.{SurveyWithin}
use Rattle.kerb_reader.proofs.EachLaws.{Every, Each, each_replicate, each_sets}

-- a value that is known to meet P
given : {A : Type 0} {P : A → Type 0} (a : A) → P a → Local (return a) 0 P
given {A} {P} a h = record {
  same = λ m s t at g k. refl;
  ends = λ s at x e q. let p : at ≡ e = cc in let r : a ≡ x = cc in (omega arith, subst P r h);
}

-- one of two readers
picked : {A : Type 0} {r q : Reader A} {P : A → Type 0} (w : ℕ) (b : Bool) → Local r w P → Local q w P → Local (λ s at. pick b (r s at) (q s at)) w P
picked w true l n = l
picked w false l n = n

same_bytes : (n m : ℕ) (s t : List ℕ) (at : ℕ) → Agree m s t → at + n ≤ m → little_endian n s at ≡ little_endian n t at
unfolding little_endian
same_bytes zero m s t at g h = refl
same_bytes (suc n) m s t at g h = rw (g.same at (omega arith), same_bytes n m s t (at + 1) g (omega arith))

bytes_local : (n : ℕ) → Local (bytes_field n) n (λ v. Unit {0})
unfolding bytes_field
bytes_local n = record {
  same = λ m s t at g k. rw (le-leb (at + n) (length s) (omega (arith, g.left)), le-leb (at + n) (length t) (omega (arith, g.right))) (ap (λ (v : ℕ). got v (at + n)) (same_bytes n m s t at g k));
  ends = λ s at v e q.
      let c = chosen (leb (at + n) (length s)) refl (little_endian n s at) (at + n) 12 at v e q in
      (omega (arith, c.2), tt);
}

header_local : (n : ℕ) (right : ℕ → Bool) → Local (header n right) n (λ v. right v ≡ true)
unfolding header
header_local n right = tested n (λ v. v) 12 right (bytes_local n)

coordinate_local : Local coordinate 8 (λ x. size_at_most metres_most x ≡ true)
unfolding coordinate
coordinate_local = tested 8 (of_bits binary64) 13 (size_at_most metres_most) (bytes_local 8)

sized : {x : Float} → size_at_most metres_most x ≡ true → Sized metres_most x
sized e = record { sized = subst T (sym e) tt }

vertex_local : Local read_vertex 16 VertexWithin
unfolding read_vertex
vertex_local = after 8 8 coordinate_local (λ x X. after 8 0 coordinate_local (λ y Y. given _ (record { x = sized X; y = sized Y })))

-- so many vertices in a row
row_local : (k i : ℕ) → Local (many (λ (i : ℕ). read_vertex) (λ i v. i + 1) (λ i. return []) k i) (k * 16) (Every VertexWithin)
unfolding many
row_local zero i = wider 0 (0 * 16) (omega arith) (given [] tt)
row_local (suc k) i =
    wider (16 + (k * 16 + 0)) (suc k * 16) (omega arith)
    (after 16 (k * 16 + 0) vertex_local (λ v W. after (k * 16) 0 (row_local k (i + 1)) (λ vs U. given (v ∷ vs) (W, U))))

pub no_vertex_within : VertexWithin no_vertex
unfolding size_at_most
no_vertex_within = record { x = record { sized = tt }; y = record { sized = tt } }

pub no_vertices_within : Each VertexWithin no_vertex no_vertices
unfolding no_vertices
no_vertices_within = each_replicate VertexWithin vertices_most no_vertex no_vertex_within

pub no_vertices_length : length no_vertices ≡ vertices_most
unfolding no_vertices
no_vertices_length = length-replicate vertices_most no_vertex

abbrev Vertices : List Vertex → Type 0
Vertices vs = Each VertexWithin no_vertex vs × (length vs ≡ vertices_most)

laid : {r : Reader (List Vertex)} (w : ℕ) → Local r w (Every VertexWithin) → Local (λ s at. into no_vertices 0 (r s at)) w Vertices
laid {r} w n = record {
  same = λ m s t at g k. ap (into no_vertices 0) (n.same m s t at g k);
  ends = λ s at us e q. through s at (r s at) refl us e q;
}
  where
    through : (s : List ℕ) (at : ℕ) (x : Read (List Vertex)) → r s at ≡ x → (us : List Vertex) (e : ℕ) → into no_vertices 0 x ≡ got us e → (e ≤ at + w) × Vertices us
    through s at (got xs y) h us e q =
        let p = n.ends s at xs y h in
        let i : y ≡ e = cc in
        let u : sets no_vertices 0 xs ≡ us = cc in
        (omega (arith, p.0), subst Vertices u (each_sets VertexWithin no_vertices 0 xs no_vertex no_vertices_within p.1, length-sets no_vertices 0 xs ∙ no_vertices_length))
    through s at (refused m p) h us e q = absurd (let z : ◌≡◌ {A = ℕ} 0 1 = cc in omega arith)

vertices_local : (k : ℕ) → k ≤ vertices_most → Local (read_vertices k) 8000 Vertices
unfolding read_vertices
vertices_local k h = wider (k * 16) 8000 (omega arith) (laid (k * 16) (row_local k 0))

point_local : Local read_point 16 SurveyWithin
unfolding read_point
point_local = after 16 0 vertex_local (λ v W. given _ (record { size = no_vertices_length; least = omega arith; most = lit≤ tt; first = W; others = no_vertices_within }))

line_local : Local read_line 8004 SurveyWithin
unfolding read_line
line_local =
    after 4 8000 (header_local 4 _) (λ n N.
    let b = and_parts (leb 2 n) (leb n vertices_most) N in
    let most : n ≤ vertices_most = leb-true n vertices_most b.1 in
    after 8000 0 (vertices_local n most) (λ vs W.
    given _ (record { size = W.1; least = omega (arith, leb-true 2 n b.0); most = most; first = W.0 0; others = W.0 })))

shape_local : (type : ℕ) → Local (read_shape type) 8004 SurveyWithin
shape_local type = picked 8004 (eqb type 1) (wider 16 8004 (omega arith) point_local) line_local

pub survey_local : Local read_survey 8009 SurveyWithin
unfolding read_survey
survey_local = after 1 8008 (header_local 1 _) (λ m _. after 4 8004 (header_local 4 _) (λ t _. shape_local t))
