-- What a survey that was read holds, and the ticks that are written of it.
use Prim.Native.Nat.{ℕ, ◌+◌, ◌-◌, ◌≤◌, ◌<◌}
use mathlib.Core.Path.{◌≡◌, refl, sym, ◌∙◌, ap, subst}
use mathlib.Core.List.{List, ◌∷◌, map}
use mathlib.Core.Logic.{◌⊎◌, inl, inr}
use mathlib.Core.Bool.{Bool, true, false}
use native.Mathlib.Omega.{arith}
use borrow.Author.Tests.{leb-true, le-leb, lt-leb}
use lib.Dec.{leb, eqb}
use lib.IntN.{ℤ, pos}
use lib.ListN.{length, get_or, take, drop, length-take, length-drop, length-map, get_or-append, get_or-map}
use lib.Seq.{sets, sets-eq, length-sets}
use Rattle.std.proofs.lemmas.Bool.{and_parts, and_from}
use Rattle.std.proofs.lemmas.List.{get_or_default}
use Rattle.std.proofs.lemmas.List.{drop-take}
use Rattle.std.specs.Prelude.{Result, Ok, Err}
use Rattle.refusal.specs.Numbers.{number_of}
use Rattle.refusal.specs.declared.Refusal.{Refusal}
use Rattle.number.specs.Read.{Read, got, refused, pick}
use Rattle.number.proofs.Codec.{first, chosen}
use Rattle.number.proofs.ManyLaws.{none_of}
use Rattle.metres.specs.Tick.{VertexWithin}
use Rattle.metres.specs.declared.Vertex.{Vertex}
use Rattle.metres.proofs.Ticks.{tick_bound}
use Rattle.kerb_reader.specs.declared.Geometry.{Geometry}
use Rattle.kerb_reader.specs.declared.Geometry.TheVariants as G
use Rattle.kerb_reader.specs.declared.Survey.{Survey}
use Rattle.kerb_reader.specs.declared.KerbRefusal.{KerbRefusal}
use Rattle.kerb_reader.specs.declared.KerbRefusal.TheVariants.{Field, NoRoom}
use Rattle.kerb_reader.specs.Geometry.{no_vertex, read_survey, read_end, read_geometry, vertices_by, vertices_of}
use Rattle.kerb_reader.specs.Answers as K
use Rattle.kerb_reader.specs.Ticks.{room_in, east_of, north_of, east_ticks, north_ticks, kerb_answer, ticks_in, KerbEnsures}
use Rattle.kerb_reader.specs.Inner.{first_of, count_of, SurveyWithin, SurveyWritten}
use Rattle.kerb_reader.specs.Claims.{KerbWithin, KerbWithinLimits}
use Rattle.kerb_reader.proofs.EachLaws.{Each, each_take, each_drop, each_cons}
use Rattle.kerb_reader.proofs.Reaching.{no_vertex_within, survey_local}

pub read_within_lem : (s : List ℕ) (g : Survey) (e : ℕ) → read_geometry s ≡ got g e → SurveyWithin g
unfolding read_geometry
read_within_lem s g e h =
    let f = first (read_survey s 0) (λ a x. read_end a s x) g e h in
    let c = chosen (eqb f.next (length s)) refl f.value f.next 12 f.next g e f.then in
    subst SurveyWithin c.1 (survey_local.ends s 0 f.value f.next f.reads).1

-- the vertices of a survey: the first, then those after it in the array
by_shape : (g : Geometry) (vs : List Vertex) → vertices_by g vs ≡ first_of g ∷ drop 1 (take (count_of g) vs)
by_shape (G.Point x y) vs = rw (none_of vs 1 1 (omega arith))
by_shape (G.Line first count) vs = refl

pub vertices_are : (g : Survey) → vertices_of g ≡ first_of g.geometry ∷ drop 1 (take (count_of g.geometry) g.vertices)
vertices_are g = by_shape g.geometry g.vertices

-- the array's vertices after the first
others_are : (g : Survey) → SurveyWithin g → take (count_of g.geometry - 1) (drop 1 g.vertices) ≡ drop 1 (take (count_of g.geometry) g.vertices)
others_are g w =
    let n = count_of g.geometry in
    let e : 1 + (n - 1) ≡ n = omega (arith, w.least) in
    sym (drop-take 1 (n - 1) g.vertices) ∙ ap (λ (k : ℕ). drop 1 (take k g.vertices)) e

pub ticks_are : (g : Survey) → SurveyWithin g → (tick : Vertex → ℤ) (run : List ℤ) {v : Vertex} {n : ℕ} → v ≡ first_of g.geometry → n ≡ count_of g.geometry
    → sets run 0 (map tick (v ∷ take (n - 1) (drop 1 g.vertices))) ≡ sets run 0 (map tick (vertices_of g))
ticks_are g w tick run e f = rw (e, f, others_are g w, vertices_are g)

module _ (g : Survey) (w : SurveyWithin g) where
  pub count_is : count_of g.geometry ≡ length (vertices_of g)
  count_is =
      let n = count_of g.geometry in
      rw (vertices_are g) (omega (arith, length-drop 1 (take n g.vertices), length-take n g.vertices, w.size, w.least, w.most))

  vertices_within : Each VertexWithin no_vertex (vertices_of g)
  vertices_within =
      let used = take (count_of g.geometry) g.vertices in
      subst (Each VertexWithin no_vertex) (sym (vertices_are g))
      (each_cons VertexWithin (first_of g.geometry) (drop 1 used) no_vertex w.first
      (each_drop VertexWithin 1 used no_vertex (each_take VertexWithin (count_of g.geometry) g.vertices no_vertex no_vertex_within w.others)))

-- an entry that was written at the start of a run
written_entry : (tick : Vertex → ℤ) (vs : List Vertex) (run : List ℤ) (i : ℕ) → length vs ≤ length run → i < length vs → get_or (sets run 0 (map tick vs)) i (pos 0) ≡ tick (get_or vs i no_vertex)
written_entry tick vs run i h l =
    let n = length-map vs tick in
    let k : i < length (map tick vs) = omega arith in
    ap (λ (xs : List ℤ). get_or xs i (pos 0)) (sets-eq (map tick vs) run 0 (omega arith))
    ∙ get_or-append (map tick vs) _ (pos 0) i k ∙ get_or_default (map tick vs) i (pos 0) (tick no_vertex) k ∙ get_or-map tick vs i no_vertex

-- both runs have room, or one is too short
pub both_room : (n : ℕ) (xs ys : List ℤ) → room_in n xs ys ≡ true → (n ≤ length xs) × (n ≤ length ys)
both_room n xs ys e = let p = and_parts (leb n (length xs)) (leb n (length ys)) e in (leb-true n _ p.0, leb-true n _ p.1)

pub roomy : (n : ℕ) (xs ys : List ℤ) → n ≤ length xs → n ≤ length ys → room_in n xs ys ≡ true
roomy n xs ys h k = and_from _ _ (le-leb n (length xs) h) (le-leb n (length ys) k)

pub too_short : (n : ℕ) (xs ys : List ℤ) → (length xs < n) ⊎ ((n ≤ length xs) × (length ys < n)) → room_in n xs ys ≡ false
too_short n xs ys (inl h) = rw (lt-leb n (length xs) h)
too_short n xs ys (inr (h, k)) = rw (le-leb n (length xs) h, lt-leb n (length ys) k)

module _ (g : Survey) (w : SurveyWithin g) (xs ys : List ℤ) (room : room_in (length (vertices_of g)) xs ys ≡ true) where
  written_within : KerbWithin (length (vertices_of g)) (sets xs 0 (east_ticks g)) (sets ys 0 (north_ticks g))
  written_within =
      let vs = vertices_of g in
      let r = both_room (length vs) xs ys room in
      let c = count_is g w in
      let v = vertices_within g w in
      record {
        least = omega (arith, w.least);
        most = omega (arith, w.most);
        east_room = omega (arith, length-sets xs 0 (east_ticks g), r.0);
        north_room = omega (arith, length-sets ys 0 (north_ticks g), r.1);
        east = λ i l. rw (written_entry east_of vs xs i r.0 l) (tick_bound _ (v i).x);
        north = λ i l. rw (written_entry north_of vs ys i r.1 l) (tick_bound _ (v i).y);
      }

  -- what is written where there is room
  pub answered : {n : ℕ} {xs' ys' : List ℤ} → n ≡ length (vertices_of g) → xs' ≡ sets xs 0 (east_ticks g) → ys' ≡ sets ys 0 (north_ticks g) → SurveyWritten g xs ys (Ok n) xs' ys'
  answered e east north = record { answer = rw (room, e); east = rw (room) east; north = rw (room) north }

pub no_room : (g : Survey) (xs ys : List ℤ) → room_in (length (vertices_of g)) xs ys ≡ false → SurveyWritten g xs ys (Err NoRoom) xs ys
no_room g xs ys room = record { answer = rw (room); east = rw (room); north = rw (room) }

-- a survey that was read, written or not
pub kerb_written : (s : List ℕ) (xs ys : List ℤ) {r : Result ℕ KerbRefusal} {xs' ys' : List ℤ} (g : Survey) (e : ℕ) → read_geometry s ≡ got g e → SurveyWritten g xs ys r xs' ys' → KerbEnsures s xs ys r xs' ys'
kerb_written s xs ys g e h w = record { answer = rw h w.answer; east = rw h w.east; north = rw h w.north }

pub kerb_refused : (s : List ℕ) (xs ys : List ℤ) (r : Refusal) → read_geometry s ≡ refused (number_of r.fault) r.place → KerbEnsures s xs ys (Err (Field r)) xs ys
kerb_refused s xs ys r h = record { answer = rw h; east = rw h; north = rw h }

-- a kerb that was read keeps its limits
module _ (xs ys : List ℤ) (n : ℕ) (xs' ys' : List ℤ) where
  by_room : (g : Survey) → SurveyWithin g → (b : Bool) → room_in (length (vertices_of g)) xs ys ≡ b → K.vertices n ≡ pick b (K.vertices (length (vertices_of g))) (K.refused 21)
      → xs' ≡ pick b (sets xs 0 (east_ticks g)) xs → ys' ≡ pick b (sets ys 0 (north_ticks g)) ys → KerbWithin n xs' ys'
  by_room g w true e a x y = let m : n ≡ length (vertices_of g) = cc in rw (m, x, y) (written_within g w xs ys e)
  by_room g w false e a x y = absurd (let z : ◌≡◌ {A = ℕ} 0 1 = cc in omega arith)

  by_read : (r : Read Survey) → ((g : Survey) (e : ℕ) → r ≡ got g e → SurveyWithin g) → K.vertices n ≡ kerb_answer r xs ys → xs' ≡ ticks_in r east_ticks xs ys xs → ys' ≡ ticks_in r north_ticks xs ys ys → KerbWithin n xs' ys'
  by_read (got g e) w a x y = by_room g (w g e refl) (room_in (length (vertices_of g)) xs ys) refl a x y
  by_read (refused m p) w a x y = absurd (let z : ◌≡◌ {A = ℕ} 0 1 = cc in omega arith)

pub kerb_within : KerbWithinLimits
kerb_within s xs ys n xs' ys' k = by_read xs ys n xs' ys' (read_geometry s) (read_within_lem s) k.answer k.east k.north
