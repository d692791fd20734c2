-- The first bytes decide, and where a refusal is placed.
use Prim.Native.Nat.{ℕ, ◌+◌, ◌≤◌, ◌<◌}
use mathlib.Core.Path.{◌≡◌, refl, ◌∙◌, ap, subst}
use mathlib.Core.List.{List, []}
use mathlib.Core.Bool.{Bool, true, false}
use native.Mathlib.Omega.{arith}
use native.Mathlib.Decide.{dec_le}
use borrow.Author.Tests.{leb-true, ne_eqb}
use lib.Dec.{leb, eqb, lit≤}
use lib.ListN.{length, take, length-take}
use lib.Seq.{get_or-take, take_all}
use lib.Ieee.{binary64, of_bits}
use Rattle.number.specs.Read.{Read, got, refused, pick, and_then, return}
use Rattle.number.proofs.Locality.{Agree}
use Rattle.number.proofs.PlaceLaws.{RefusedIn, Inside, Stays, returned, after, from_here, checked, in_row, laid}
use Rattle.metres.specs.Bytes.{little_endian}
use Rattle.metres.specs.Tick.{metres_most, size_at_most}
use Rattle.kerb_reader.specs.declared.Survey.{Survey}
use Rattle.kerb_reader.specs.Geometry.{bytes_field, header, coordinate, read_vertex, no_vertices, read_point, read_vertices, read_line, read_shape, read_survey, read_end, read_geometry}
use Rattle.kerb_reader.specs.Claims.{bytes_read, FirstBytes}
use Rattle.kerb_reader.proofs.Numbers.{numbers}
use Rattle.kerb_reader.proofs.Reaching.{survey_local}

-- refused by 12 or 13, within the input or at its end
module _ (s : List ℕ) where
  by_12 : (p : ℕ) → p ≤ length s → RefusedIn s 13 12 p
  by_12 p h = record { least = lit≤ tt; most = lit≤ tt; place = h }

  by_13 : (p : ℕ) → p ≤ length s → RefusedIn s 13 13 p
  by_13 p h = record { least = lit≤ tt; most = lit≤ tt; place = h }

  bytes : (n : ℕ) → Stays s 13 (bytes_field n)
  unfolding bytes_field
  bytes n = record { inside = λ at h. by at h (leb (at + n) (length s)) refl }
    where
      by : (at : ℕ) → at ≤ length s → (b : Bool) → leb (at + n) (length s) ≡ b → Inside s 13 (pick b (got (little_endian n s at) (at + n)) (refused 12 at))
      by at h true e = leb-true (at + n) (length s) e
      by at h false e = by_12 at h

  head : (n : ℕ) (right : ℕ → Bool) → Stays s 13 (header n right)
  unfolding header
  head n right = from_here s 13 (λ p h. after s 13 (bytes n) (λ v. checked s 13 (right v) 12 p (by_12 p h) (returned s 13 v)))

  metres : Stays s 13 coordinate
  unfolding coordinate
  metres = from_here s 13 (λ p h. after s 13 (bytes 8) (λ v. checked s 13 (size_at_most metres_most (of_bits binary64 v)) 13 p (by_13 p h) (returned s 13 (of_bits binary64 v))))

  vertex : Stays s 13 read_vertex
  unfolding read_vertex
  vertex = after s 13 metres (λ x. after s 13 metres (λ y. returned s 13 (record { x = x; y = y })))

  vertices : (n : ℕ) → Stays s 13 (read_vertices n)
  unfolding read_vertices
  vertices n = laid s 13 no_vertices (in_row s 13 (λ i. read_vertex) (λ i v. i + 1) (λ i. return []) (λ i. vertex) (λ i. returned s 13 []) n 0)

  point : Stays s 13 read_point
  unfolding read_point
  point = after s 13 vertex (λ v. returned s 13 _)

  line : Stays s 13 read_line
  unfolding read_line
  line = after s 13 (head 4 _) (λ n. after s 13 (vertices n) (λ vs. returned s 13 _))

  shape : (type : ℕ) → Stays s 13 (read_shape type)
  shape type = by (eqb type 1)
    where
      by : (b : Bool) → Stays s 13 (λ t at. pick b (read_point t at) (read_line t at))
      by true = point
      by false = line

  pub survey_inside : Inside s 13 (read_survey s 0)
  unfolding read_survey
  survey_inside = (after s 13 (head 1 _) (λ m. after s 13 (head 4 _) (λ t. shape t))).inside 0 (omega arith)

-- a list and its first bytes
agree : (m : ℕ) (s : List ℕ) → m ≤ length s → Agree m (take m s) s
agree m s h = record { left = omega (arith, length-take m s); right = h; same = λ i l. get_or-take m s i 0 l }

-- where an input is longer than any geometry, its length has no part in the answer
no_end : (s t : List ℕ) → bytes_read ≤ length s → bytes_read ≤ length t → (x : Read Survey) → ((g : Survey) (e : ℕ) → x ≡ got g e → e < bytes_read)
    → length s ≡ bytes_read → and_then x (λ g e. read_end g s e) ≡ and_then x (λ g e. read_end g t e)
no_end s t h k (refused n p) b l = refl
no_end s t h k (got g e) b l =
    let c = b g e refl in
    rw (ne_eqb e (length s) (λ q. omega arith), ne_eqb e (length t) (λ q. omega arith))

survey_ends : (s : List ℕ) (g : Survey) (e : ℕ) → read_survey s 0 ≡ got g e → e < bytes_read
survey_ends s g e h = omega (arith, (survey_local.ends s 0 g e h).0)

pub decided : (s : List ℕ) → read_geometry (take bytes_read s) ≡ read_geometry s
unfolding read_geometry
decided s = by (dec_le (length s) bytes_read)
  where
    by : Dec (length s ≤ bytes_read) → read_geometry (take bytes_read s) ≡ read_geometry s
    by (yes h) = ap read_geometry (take_all bytes_read s h)
    by (no h) =
        let l : bytes_read ≤ length s = omega arith in
        let k : length (take bytes_read s) ≡ bytes_read = omega (arith, length-take bytes_read s) in
        let same = survey_local.same bytes_read (take bytes_read s) s 0 (agree bytes_read s l) (lit≤ tt) in
        ap (λ (x : Read Survey). and_then x (λ g e. read_end g (take bytes_read s) e)) same
        ∙ no_end (take bytes_read s) s (omega arith) l (read_survey s 0) (survey_ends s) k

-- a refusal of the survey itself lies in its first bytes
survey_place : (s : List ℕ) (n p : ℕ) → read_survey s 0 ≡ refused n p → (p < bytes_read) × (p ≤ length s)
survey_place s n p h =
    let inside : RefusedIn s 13 n p = subst (Inside s 13) h (survey_inside s) in
    by (dec_le 8009 (length s)) inside
  where
    by : Dec (8009 ≤ length s) → RefusedIn s 13 n p → (p < bytes_read) × (p ≤ length s)
    by (no k) i = (omega (arith, i.place), i.place)
    by (yes k) i =
        let t = take 8009 s in
        let same = survey_local.same 8009 t s 0 (agree 8009 s k) (lit≤ tt) in
        let j : RefusedIn t 13 n p = subst (Inside t 13) (same ∙ h) (survey_inside t) in
        (omega (arith, j.place, length-take 8009 s), i.place)

pub placed : (s : List ℕ) (n p : ℕ) → read_geometry s ≡ refused n p → (p < bytes_read) × (p ≤ length s)
unfolding read_geometry
placed s n p h = by (read_survey s 0) refl h
  where
    end : (g : Survey) (e : ℕ) → read_survey s 0 ≡ got g e → (b : Bool) → pick b (got g e) (refused 12 e) ≡ refused n p → (p < bytes_read) × (p ≤ length s)
    end g e q true z = absurd (let y : ◌≡◌ {A = ℕ} 0 1 = cc in omega arith)
    end g e q false z =
        let same : e ≡ p = cc in
        let i : e ≤ length s = subst (Inside s 13) q (survey_inside s) in
        (omega (arith, survey_ends s g e q), omega arith)

    by : (x : Read Survey) → read_survey s 0 ≡ x → and_then x (λ g e. read_end g s e) ≡ refused n p → (p < bytes_read) × (p ≤ length s)
    by (refused m q) e z = survey_place s n p (e ∙ z)
    by (got g e) q z = end g e q (eqb e (length s)) z

pub first_bytes_lem : FirstBytes
first_bytes_lem = record { decide = decided; place = placed; number = numbers }
