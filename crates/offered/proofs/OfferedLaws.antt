-- From what `read_job` and `list_settings` ensure to what a job and a rail come to, on a caller's runs and on runs of zeros, which have room for every path.
use Prim.Native.Nat.{ℕ}
use mathlib.Core.Path.{◌≡◌, refl, sym, ◌∙◌, ap, subst⁻¹}
use mathlib.Core.Bool.{Bool, true, false, ◌&&◌}
use mathlib.Core.List.{List, [], ◌∷◌}
use mathlib.Core.Logic.{inl, inr}
use borrow.Author.Tests.{eq-eqb}
use lib.ListN.{length}
use Rattle.std.specs.Prelude.{Result, Ok, Err, MatchResult, IsErrAnd}
use Rattle.std.proofs.lemmas.Result.{err_from_is_err_and}
use Rattle.refusal.specs.Numbers.{number_of}
use Rattle.refusal.specs.declared.Fault.{Fault}
use Rattle.refusal.specs.declared.Refusal.{Refusal}
use Rattle.number.specs.Read.{Bytes, Read, got, refused, pick}
use Rattle.job.specs.declared.Job.{Job}
use Rattle.job.specs.Faults.{or_fault, first_of, judge}
use Rattle.job_reader.specs.Record.{read_job}
use Rattle.job_reader.specs.Answers.{ReadEnsures}
use Rattle.job_writer.proofs.RoundTrip.{read_written}
use Rattle.path.specs.Stations.{stations}
use Rattle.path.specs.Laying.{PathRuns, room_for}
use Rattle.walk.specs.Tests.{reaches_lent}
use Rattle.reaches.specs.Cells.{Reaches, lengths_of}
use Rattle.run.specs.Run.{run_refusal}
use Rattle.ranking.specs.declared.Setting.{Setting}
use Rattle.ranking.specs.declared.Shortlist.{Shortlist}
use Rattle.ranking.specs.Ranking.{Listed, listed_of, as_listed}
use Rattle.ranking.specs.Ranking as L
use Rattle.bogie.specs.declared.Rail.{Rail}
use Rattle.bogie.specs.Settings.{rail_allowed}
use Rattle.bogie.specs.List.{list_refusal, ranked_settings, list_answer, ListEnsures}
use Rattle.swept.specs.Swept.{empty_path, empty_reaches}
use Rattle.swept.proofs.RangeLaws.{refused_so}
use Rattle.swept.proofs.SweptLaws.{run_passes}
use Rattle.offered.specs.declared.OfferRefusal.{OfferRefusal}
use Rattle.offered.specs.declared.OfferRefusal.TheVariants as V
use Rattle.offered.specs.Answers.{Offered, as_offered}
use Rattle.offered.specs.Answers as O
use Rattle.offered.specs.Offered.{list_of, offered_read, offered_of, offered_into}
use Rattle.offered.specs.Ranges.{ListedSo, ListIntoEnsures}

-- ---- runs of zeros

-- 29 is all that is left to refuse
by_rail : (t : Bool) (l : Listed) → list_answer (or_fault t 29 0) l ≡ pick t l (L.refused 29)
by_rail true l = refl
by_rail false l = refl

own_list : (j : Job) (b : Rail) → judge j ≡ 0 → list_answer (list_refusal j b empty_path empty_reaches) (listed_of (ranked_settings j b empty_path empty_reaches)) ≡ list_of j b
unfolding list_refusal list_of
own_list j b sound = let z = run_passes j sound in rw z (by_rail (rail_allowed b) (listed_of (ranked_settings j b empty_path empty_reaches)))

module _ (s : List ℕ) (bytes : Bytes s) (b : Rail) where
  own_runs : offered_into (read_job s) b empty_path empty_reaches ≡ offered_of s b
  unfolding offered_of
  own_runs = by (read_job s) refl
    where
      by : (x : Read Job) → read_job s ≡ x → offered_into x b empty_path empty_reaches ≡ offered_read x b
      by (got j e) q = ap O.listed (own_list j b (read_written s j e bytes q).judged)
      by (refused n p) q = refl

  pub own_offers : (a : Offered) (p : PathRuns) (r : Reaches) → ListIntoEnsures s b empty_path empty_reaches a p r → a ≡ offered_of s b
  own_offers a p r k = k.answer ∙ own_runs

-- ---- which numbers a list is refused by

ranked_so : (l : List Setting) → ListedSo (listed_of l)
ranked_so [] = inr (inr refl)
ranked_so (a ∷ []) = tt
ranked_so (a ∷ b ∷ []) = tt
ranked_so (a ∷ b ∷ c ∷ l) = tt

list_so : (j : Job) (b : Rail) (p : PathRuns) (r : Reaches) (l : List Setting) → judge j ≡ 0 → ListedSo (list_answer (list_refusal j b p r) (listed_of l))
unfolding list_refusal run_refusal
list_so j b p r l sound =
    let z = eq-eqb (judge j) 0 sound in
    rw z (by (room_for (length (stations j)) p && reaches_lent (length (stations j)) (lengths_of r)) (rail_allowed b))
  where
    by : (t u : Bool) → ListedSo (list_answer (first_of (pick t 0 21) (or_fault u 29 0)) (listed_of l))
    by true true = ranked_so l
    by true false = inr (inl refl)
    by false u = inl refl

-- ---- what `read_job` and `list_settings` ensure, put together

module _ (s : List ℕ) (b : Rail) (p : PathRuns) (r : Reaches) where
  pub refused_offers : (e : Refusal) → ReadEnsures s (Err e) → ListIntoEnsures s b p r (O.refused (number_of e.fault) e.place) p r
  refused_offers e k =
      let q : read_job s ≡ refused (number_of e.fault) e.place = sym k.answer in
      record { answer = rw q refl; path = rw q refl; reaches = rw q refl; ranges = refused_so s (number_of e.fault) e.place q }

  -- a list's refusal is handed on
  told : (a : Result Shortlist Fault) (t : Result Shortlist OfferRefusal) → MatchResult a (λ l. t ≡ Ok l) (λ f. IsErrAnd t (λ x. x ≡ V.List f)) → as_offered t ≡ O.listed (as_listed a)
  told (Ok l) t m = rw m refl
  told (Err f) t m = let k = err_from_is_err_and t m in rw (k.1, k.2) refl

  pub accepted_offers : (j : Job) → ReadEnsures s (Ok j) → (a : Result Shortlist Fault) (p' : PathRuns) (r' : Reaches) → ListEnsures j b p r (as_listed a) p' r'
      → (t : Result Shortlist OfferRefusal) → MatchResult a (λ l. t ≡ Ok l) (λ f. IsErrAnd t (λ x. x ≡ V.List f)) → ListIntoEnsures s b p r (as_offered t) p' r'
  accepted_offers j k a p' r' l t m =
      let e : read_job s ≡ got j (length s) = sym k.answer in
      let sound = (read_written s j (length s) k.bytes e).judged in
      subst⁻¹ (λ (x : Offered). ListIntoEnsures s b p r x p' r') (told a t m)
      (record {
        answer = rw e (ap O.listed l.answered);
        path = rw e l.path;
        reaches = rw e l.reaches;
        ranges = subst⁻¹ ListedSo l.answered (list_so j b p r (ranked_settings j b p r) sound);
      })
