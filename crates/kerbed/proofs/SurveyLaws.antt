-- From what reading a job and a geometry ensures to what they come to.
use Prim.Native.Nat.{ℕ, zero, suc, ◌<◌}
use mathlib.Core.Path.{◌≡◌, refl, sym, ◌∙◌, ap}
use mathlib.Core.Bool.{Bool, true, false}
use mathlib.Core.List.{List}
use mathlib.Core.Logic.{inl, inr}
use native.Mathlib.Omega.{arith}
use borrow.Author.Tests.{le-leb}
use lib.ListN.{length}
use lib.IntN.{ℤ}
use Rattle.std.proofs.lemmas.Bool.{and_from}
use Rattle.std.specs.Prelude.{Ok, Err}
use Rattle.refusal.specs.Numbers.{number_of}
use Rattle.number.specs.Read.{Read, got, refused, pick}
use Rattle.job.specs.declared.Job.{Job}
use Rattle.job.specs.Faults.{judge}
use Rattle.job_reader.specs.Answers.{ReadEnsures}
use Rattle.job_writer.proofs.RoundTrip.{read_written}
use Rattle.swept.specs.declared.SweepRefusal.{SweepRefusal}
use Rattle.swept.specs.declared.SweepRefusal.TheVariants as W
use Rattle.swept.proofs.RangeLaws.{refused_so}
use Rattle.kerb_line.specs.Kerb.{KerbRuns, kerb_runs, vertex_at, kerb_lent, vertex_sound, kerb_sound}
use Rattle.kerb_reader.specs.declared.Survey.{Survey}
use Rattle.kerb_reader.specs.Answers as R
use Rattle.kerb_reader.specs.Geometry.{vertices_of, read_geometry}
use Rattle.kerb_reader.specs.Ticks.{room_in, east_ticks, north_ticks, kerb_answer, ticks_in, KerbEnsures}
use Rattle.kerb_reader.specs.Claims.{KerbWithin}
use Rattle.kerb_reader.proofs.Limits.{read_within_lem, count_is, kerb_within}
use Rattle.kerb_reader.proofs.Places.{first_bytes_lem as geometry-first}
use Rattle.kerbed.specs.Answers.{Kerbed, as_kerbed}
use Rattle.kerbed.specs.Answers as K
use Rattle.kerbed.specs.Kerbed.{kerbed_job, kerbed_ticks, no_ticks, survey_runs, kerbed_survey, kerbed_read, kerbed_of}
use Rattle.kerbed.specs.Ranges.{KerbedSo, TicksEnsures, BytesSo, KerbedEnsures}
use Rattle.kerbed.specs.Inner.{Faultless, AcceptedEnsures, JobEnsures, SurveyEnsures}
use Rattle.kerbed.specs.Claims.{ReadPasses}
use Rattle.kerbed.proofs.KerbedLaws.{clash, job_passes}

-- ---- a geometry that was read into runs of zeros

module _ (j : Job) where
  room_told : (b : Bool) (g : Survey) (n : ℕ) (xs ys : List ℤ) → R.vertices n ≡ pick b (R.vertices (length (vertices_of g))) (R.refused 21)
      → xs ≡ pick b (survey_runs g).xs no_ticks → ys ≡ pick b (survey_runs g).ys no_ticks → kerbed_job j n (kerb_runs xs ys) ≡ kerbed_job j (length (vertices_of g)) (survey_runs g)
  room_told true g n xs ys e p q =
      let z : n ≡ length (vertices_of g) = cc in
      ap (λ (m : ℕ). kerbed_job j m (kerb_runs xs ys)) z ∙ (λ i. kerbed_job j (length (vertices_of g)) (kerb_runs (p i) (q i)))
  room_told false g n xs ys e p q = clash cc

  survey_read_lem : (x : Read Survey) (n : ℕ) (xs ys : List ℤ) → R.vertices n ≡ kerb_answer x no_ticks no_ticks
      → xs ≡ ticks_in x east_ticks no_ticks no_ticks no_ticks → ys ≡ ticks_in x north_ticks no_ticks no_ticks no_ticks → kerbed_job j n (kerb_runs xs ys) ≡ kerbed_survey j x
  survey_read_lem (got g e) n xs ys k p q = room_told (room_in (length (vertices_of g)) no_ticks no_ticks) g n xs ys k p q
  survey_read_lem (refused m b) n xs ys k p q = clash cc

  refused_told : (b : Bool) (g : Survey) (n p : ℕ) → R.refused_at n p ≡ pick b (R.vertices (length (vertices_of g))) (R.refused 21) → ⊥
  refused_told true g n p e = clash cc
  refused_told false g n p e = clash cc

  -- a run of 500 entries has room for every kerb
  no_room : (b : Bool) (g : Survey) (n : ℕ) → b ≡ true → R.refused n ≡ pick b (R.vertices (length (vertices_of g))) (R.refused 21) → ⊥
  no_room true g n h e = clash cc
  no_room false g n h e = clash cc

  pub survey_fits : (s : List ℕ) (x : Read Survey) → read_geometry s ≡ x → (n : ℕ) → R.refused n ≡ kerb_answer x no_ticks no_ticks → ⊥
  unfolding no_ticks
  survey_fits s (got g e) q n k =
      let w = read_within_lem s g e q in
      let l = le-leb (length (vertices_of g)) 500 (omega (arith, count_is g w, w.most)) in
      no_room (room_in (length (vertices_of g)) no_ticks no_ticks) g n (and_from _ _ l l) k
  survey_fits s (refused m p) q n k = clash cc

-- ---- a kerb that was read is let pass

vertices_sound : (k : KerbRuns) (n : ℕ) → ((i : ℕ) → i < n → vertex_sound (vertex_at k i) ≡ true) → kerb_sound n k ≡ true
unfolding kerb_sound
vertices_sound k zero h = refl
vertices_sound k (suc n) h = and_from _ _ (vertices_sound k n (λ i l. h i (omega arith))) (h n (omega arith))

within_passes : (n : ℕ) (xs ys : List ℤ) → KerbWithin n xs ys → (kerb_lent n (kerb_runs xs ys) ≡ true) × (kerb_sound n (kerb_runs xs ys) ≡ true)
unfolding kerb_lent
within_passes n xs ys w = (
  and_from _ _ (and_from _ _ (le-leb 1 n w.least) (le-leb n 500 w.most)) (and_from _ _ (le-leb n (length xs) w.east_room) (le-leb n (length ys) w.north_room)),
  vertices_sound (kerb_runs xs ys) n (λ i l. and_from _ _ (le-leb _ 150000000 (w.east i l).size) (le-leb _ 150000000 (w.north i l).size)),
)

pub read_passes_lem : ReadPasses
read_passes_lem s xs ys n xs' ys' k = within_passes n xs' ys' (kerb_within s xs ys n xs' ys' k)

-- so an answer about it is no refusal
bytes_so : (a : Kerbed) → KerbedSo a → ((n p : ℕ) → a ≡ K.refused n p → ⊥) → BytesSo a
bytes_so K.nothing h k = tt
bytes_so (K.touch s p) h k = h
bytes_so (K.stopped n u s) h k = h
bytes_so (K.refused n p) h k = absurd (k n p refl)

module _ (j : Job) (sound : judge j ≡ 0) (g : List ℕ) where
  pub read_told : (n : ℕ) (xs ys : List ℤ) (r : Kerbed) → KerbEnsures g no_ticks no_ticks (Ok n) xs ys → JobEnsures j n (kerb_runs xs ys) r → SurveyEnsures j g r
  read_told n xs ys r k t =
      let p = read_passes_lem g no_ticks no_ticks n xs ys k in
      record {
        answer = t.answer ∙ survey_read_lem j (read_geometry g) n xs ys k.answer k.east k.north;
        ranges = bytes_so r t.ranges (λ m q e. job_passes j sound n (kerb_runs xs ys) p.0 p.1 m q (sym t.answer ∙ e));
      }

  pub refused_told_so : (n p : ℕ) → R.refused_at n p ≡ kerb_answer (read_geometry g) no_ticks no_ticks → SurveyEnsures j g (K.refused n p)
  refused_told_so n p k = by (read_geometry g) refl k
    where
      by : (x : Read Survey) → read_geometry g ≡ x → R.refused_at n p ≡ kerb_answer x no_ticks no_ticks → SurveyEnsures j g (K.refused n p)
      by (got v e) q z = absurd (refused_told j (room_in (length (vertices_of v)) no_ticks no_ticks) v n p z)
      by (refused m b) q z =
          let y : (m ≡ n) × (b ≡ p) = (cc, cc) in
          let e : read_geometry g ≡ refused n p = q ∙ (λ i. refused (y.0 i) (y.1 i)) in
          record { answer = ap (kerbed_survey j) (sym e); ranges = inr (geometry-first.number g n p e, omega (arith, (geometry-first.place g n p e).0)) }

-- ---- a job that was read

module _ (s : List ℕ) (j : Job) (k : ReadEnsures s (Ok j)) where
  pub faultless : Faultless j
  faultless = record { judged = (read_written s j (length s) k.bytes (sym k.answer)).judged }

  pub geometry_told : (g : List ℕ) (r : Kerbed) → SurveyEnsures j g r → KerbedEnsures s g r
  unfolding kerbed_of
  geometry_told g r t = record { answer = t.answer ∙ ap (λ (x : Read Job). kerbed_read x (read_geometry g)) k.answer; ranges = t.ranges }

-- or refused
module _ (s : List ℕ) where
  pub ticks_refused : (e : SweepRefusal) → AcceptedEnsures s (Err e) → (n : ℕ) (kerb : KerbRuns) → TicksEnsures s n kerb (as_kerbed (Err e))
  ticks_refused (W.Stopped t) k n kerb = absurd k
  ticks_refused (W.Refused f) k n kerb =
      let h = refused_so s (number_of f.fault) f.place (sym k.answer) in
      record { answer = ap (λ (x : Read Job). kerbed_ticks x n kerb) k.answer; ranges = inl (h.number.0, h.number.1, h.near) }

  pub geometry_refused : (e : SweepRefusal) → AcceptedEnsures s (Err e) → (g : List ℕ) → KerbedEnsures s g (as_kerbed (Err e))
  unfolding kerbed_of
  geometry_refused (W.Stopped t) k g = absurd k
  geometry_refused (W.Refused f) k g =
      let h = refused_so s (number_of f.fault) f.place (sym k.answer) in
      record { answer = ap (λ (x : Read Job). kerbed_read x (read_geometry g)) k.answer; ranges = inl (h.number.0, h.number.1, h.near) }
