-- From a list told to what a call of `turning_settings` ensures: the number can be taken apart again.
use Prim.Native.Nat.{ℕ, ◌≤◌, ◌<◌}
use mathlib.Core.Path.{refl, sym, subst}
use mathlib.Core.List.{List}
use mathlib.Core.Logic.{inl, inr}
use native.Mathlib.Omega.{arith}
use borrow.Author.Tests.{le-leb, lt-leb}
use lib.ListN.{length}
use lib.IntN.{ℤ}
use Rattle.job_reader.specs.Record.{read_job}
use Rattle.path.specs.Laying.{PathRuns}
use Rattle.reaches.specs.Cells.{Reaches}
use Rattle.ranking.specs.Ranking.{Listed}
use Rattle.ranking.specs.Ranking as L
use Rattle.bogie.specs.declared.Rail.{Rail}
use Rattle.offered.specs.Answers.{Offered}
use Rattle.offered.specs.Answers as O
use Rattle.offered.specs.Offered.{offered_into}
use Rattle.offered.specs.Ranges.{ListedSo, OfferedSo, ListIntoEnsures}
use Rattle.answer_run.specs.Answers.{TellEnsures}
use Rattle.answer_run.proofs.AnswerLaws.{answered_as}
use Rattle.entries.specs.Lists.{list_told, settings_told}
use Rattle.entries.specs.Inner.{OfferedFits}
use Rattle.turning.specs.Settings.{ListApart, OfferApart, SettingsCalled}
use Rattle.turning.proofs.CallLaws.{too_short, record_refused}

list_refusal_lem : (n : ℕ) → ListedSo (L.refused n) → n < 256
list_refusal_lem n (inl e) = omega arith
list_refusal_lem n (inr (inl e)) = omega arith
list_refusal_lem n (inr (inr e)) = omega arith

list_apart : (l : Listed) → ListedSo l → ListApart (list_told l).number l
list_apart (L.one a) h = refl
list_apart (L.two a b) h = refl
list_apart (L.three a b c) h = refl
list_apart (L.refused n) h = let k = list_refusal_lem n h in record { number = omega (arith, k); byte = omega (arith, k); named = h }

module _ (s : List ℕ) where
  offer_apart : (a : Offered) → OfferedSo s a → OfferApart (settings_told a).number a
  offer_apart (O.listed l) h = list_apart l h
  offer_apart (O.refused n p) h = record_refused s n p h

  pub offer_fits : (a : Offered) → OfferedSo s a → OfferedFits a
  offer_fits (O.listed l) h = tt
  offer_fits (O.refused n p) h = record { byte = omega (arith, h.near) }

  module _ (b : Rail) (p : PathRuns) (r : Reaches) (before : List ℤ) where
    abbrev answer : Offered
    answer = offered_into (read_job s) b p r

    -- an answer run with too few entries
    pub settings_short : length before < 7 → SettingsCalled s b p r before 21 p r before
    settings_short h =
        let e = lt-leb 7 (length before) h in
        record { told = too_short 7 (settings_told answer) before h; apart = λ g. absurd (omega arith); path = rw e refl; reaches = rw e refl }

    -- a list told
    pub settings_called : 7 ≤ length before → (a : Offered) (p' : PathRuns) (r' : Reaches) → ListIntoEnsures s b p r a p' r' → (n : ℕ) (after : List ℤ) → TellEnsures (settings_told a) before n after
        → SettingsCalled s b p r before n p' r' after
    settings_called h a p' r' k n after t =
        let e = le-leb 7 (length before) h in
        record {
          told = answered_as 7 settings_told before n after h a answer k.answer t;
          apart = λ g. subst (OfferApart n) k.answer (subst (λ (m : ℕ). OfferApart m a) (sym t.number) (offer_apart a k.ranges));
          path = rw e k.path;
          reaches = rw e k.reaches;
        }
