-- A geometry is refused by 12 or 13, and by nothing else.
use Prim.Native.Nat.{ℕ, zero, suc, ◌+◌}
use mathlib.Core.Path.{◌≡◌, refl, subst}
use mathlib.Core.Bool.{Bool, true, false}
use mathlib.Core.List.{List, [], ◌∷◌}
use mathlib.Core.Logic.{◌⊎◌, inl, inr}
use lib.Dec.{leb, eqb}
use lib.ListN.{length}
use lib.Ieee.{binary64, of_bits}
use Rattle.number.specs.Read.{Read, got, refused, Reader, pick, and_then, ◌>>=◌, return, here, unless, many, into}
use Rattle.metres.specs.Bytes.{little_endian}
use Rattle.metres.specs.Tick.{metres_most, size_at_most}
use Rattle.metres.specs.declared.Vertex.{Vertex}
use Rattle.kerb_reader.specs.Geometry.{bytes_field, header, coordinate, read_vertex, no_vertices, read_vertices, read_point, read_line, read_shape, read_survey, read_end, read_geometry}

abbrev pub Number : ℕ → Type 0
Number n = (n ≡ 12) ⊎ (n ≡ 13)

abbrev Named : {A : Type 0} → Read A → Type 0
Named (got a e) = Unit {0}
Named (refused n p) = Number n

record Names {A : Type 0} (r : Reader A) : Type 0 where
  named : (s : List ℕ) (at : ℕ) → Named (r s at)

returned : {A : Type 0} (a : A) → Names (return a)
returned a = record { named = λ s at. tt }

after : {A B : Type 0} {r : Reader A} {f : A → Reader B} → Names r → ((a : A) → Names (f a)) → Names (r >>= f)
after {A} {B} {r} {f} k l = record { named = λ s at. through s (r s at) (k.named s at) }
  where
    through : (s : List ℕ) (x : Read A) → Named x → Named (and_then x (λ a e. f a s e))
    through s (got a e) i = (l a).named s e
    through s (refused n p) i = i

from_here : {A : Type 0} {f : ℕ → Reader A} → ((p : ℕ) → Names (f p)) → Names (here >>= f)
from_here k = record { named = λ s at. (k at).named s at }

checked : {A : Type 0} (t : Bool) (n p : ℕ) {k : Reader A} → Number n → Names k → Names (unless t n p k)
checked true n p h k = record { named = λ s at. k.named s at }
checked false n p h k = record { named = λ s at. h }

in_row : {A : Type 0} (one : Reader A) → Names one → (k i : ℕ) → Names (many (λ (j : ℕ). one) (λ j v. j + 1) (λ j. return []) k i)
unfolding many
in_row one h zero i = returned []
in_row one h (suc k) i = after h (λ x. after (in_row one h k (i + 1)) (λ xs. returned (x ∷ xs)))

bytes : (n : ℕ) → Names (bytes_field n)
unfolding bytes_field
bytes n = record { named = λ s at. by (leb (at + n) (length s)) (little_endian n s at) (at + n) at }
  where
    by : (b : Bool) (v e p : ℕ) → Named (pick b (got v e) (refused 12 p))
    by true v e p = tt
    by false v e p = inl refl

head : (n : ℕ) (right : ℕ → Bool) → Names (header n right)
unfolding header
head n right = from_here (λ p. after (bytes n) (λ v. checked (right v) 12 p (inl refl) (returned v)))

metres : Names coordinate
unfolding coordinate
metres = from_here (λ p. after (bytes 8) (λ v. checked (size_at_most metres_most (of_bits binary64 v)) 13 p (inr refl) (returned (of_bits binary64 v))))

vertex : Names read_vertex
unfolding read_vertex
vertex = after metres (λ x. after metres (λ y. returned (record { x = x; y = y })))

vertices : (n : ℕ) → Names (read_vertices n)
unfolding read_vertices
vertices n = record { named = λ s at. by (many (λ (j : ℕ). read_vertex) (λ j v. j + 1) (λ j. return []) n 0 s at) ((in_row read_vertex vertex n 0).named s at) }
  where
    by : (x : Read (List Vertex)) → Named x → Named (into no_vertices 0 x)
    by (got vs e) h = tt
    by (refused m p) h = h

shape : (type : ℕ) → Names (read_shape type)
unfolding read_point read_line
shape type = by (eqb type 1)
  where
    by : (b : Bool) → Names (λ s at. pick b (read_point s at) (read_line s at))
    by true = after vertex (λ v. returned _)
    by false = after (head 4 _) (λ n. after (vertices n) (λ vs. returned _))

whole : (s : List ℕ) → Named (read_geometry s)
unfolding read_survey read_geometry
whole s = (after {f = read_end} (after (head 1 _) (λ m. after (head 4 _) (λ t. shape t))) (λ g. record { named = λ t at. by (eqb at (length t)) g at })).named s 0
  where
    by : {A : Type 0} (b : Bool) (g : A) (at : ℕ) → Named (pick b (got g at) (refused 12 at))
    by true g at = tt
    by false g at = inl refl

pub numbers : (s : List ℕ) (n p : ℕ) → read_geometry s ≡ refused n p → Number n
numbers s n p h = subst Named h (whole s)
