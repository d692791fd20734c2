-- From a reading or a report told to what a call ensures: the number can be taken apart again.
use Prim.Native.Nat.{ℕ, ◌≤◌, ◌<◌}
use mathlib.Core.Path.{◌≡◌, refl, sym, subst}
use mathlib.Core.Bool.{Bool, true, false}
use mathlib.Core.List.{List}
use mathlib.Core.Logic.{◌⊎◌, inl, inr}
use native.Mathlib.Omega.{arith}
use borrow.Author.Tests.{le-leb, lt-leb}
use lib.ListN.{length}
use lib.IntN.{ℤ}
use Rattle.std.specs.Prelude.{Result}
use Rattle.number.specs.Read.{Read, got, refused, pick}
use Rattle.job_reader.specs.Record.{read_job}
use Rattle.answer_run.specs.Answers.{TellEnsures}
use Rattle.answer_run.proofs.AnswerLaws.{answered_as}
use Rattle.kerb_line.specs.Kerb.{KerbRuns, kerb_runs}
use Rattle.kerb_reader.specs.declared.Survey.{Survey}
use Rattle.kerb_reader.specs.declared.KerbRefusal.{KerbRefusal}
use Rattle.kerb_reader.specs.Answers.{KerbRead, as_kerb}
use Rattle.kerb_reader.specs.Answers as R
use Rattle.kerb_reader.specs.Geometry.{vertices_of, read_geometry}
use Rattle.kerb_reader.specs.Ticks.{room_in, kerb_answer, KerbEnsures}
use Rattle.kerb_reader.proofs.Limits.{read_within_lem, count_is}
use Rattle.kerb_reader.proofs.Places.{first_bytes_lem}
use Rattle.kerbed.specs.Answers.{Kerbed}
use Rattle.kerbed.specs.Answers as K
use Rattle.kerbed.specs.Kerbed.{kerbed_ticks}
use Rattle.kerbed.specs.Ranges.{KerbedSo, TicksEnsures}
use Rattle.kerb_told.specs.Entries.{ticks_told, touch_told}
use Rattle.kerb_told.specs.Inner.{KerbedFits, ReadFits}
use Rattle.turning.specs.Kerbs.{ReadApart, TicksCalled, TouchApart, TouchCalled}
use Rattle.turning.proofs.CallLaws.{too_short, byte_apart, unit_apart}

-- ---- a report

below_256 : (n : ℕ) → (n ≡ 22) ⊎ (n ≡ 23) → n < 256
below_256 n (inl e) = omega arith
below_256 n (inr e) = omega arith

touch_apart : (a : Kerbed) → KerbedSo a → TouchApart (touch_told a).number a
touch_apart K.nothing h = refl
touch_apart (K.touch k p) h = refl
touch_apart (K.stopped n u k) h = let e = unit_apart n u k (below_256 n h.number) (omega (arith, h.unit.1)) in record { number = e.0; unit = e.1; step = e.2; named = h }
touch_apart (K.refused n p) (inl h) = let e = byte_apart n p (omega (arith, h.1)) in record { number = e.0; byte = e.1; named = inl h }
touch_apart (K.refused n p) (inr (inl z, q)) = let e = byte_apart n p (omega arith) in record { number = e.0; byte = e.1; named = inr (inl z, q) }
touch_apart (K.refused n p) (inr (inr z, q)) = let e = byte_apart n p (omega arith) in record { number = e.0; byte = e.1; named = inr (inr z, q) }

pub touch_fits : (a : Kerbed) → KerbedSo a → KerbedFits a
touch_fits K.nothing h = tt
touch_fits (K.touch k p) h = record { step = h.step.1; point = h.point }
touch_fits (K.stopped n u k) h = record { unit = h.unit.1; step = h.step.1 }
touch_fits (K.refused n p) (inl h) = record { byte = omega (arith, h.2) }
touch_fits (K.refused n p) (inr h) = record { byte = omega (arith, h.1) }

module _ (s : List ℕ) (n : ℕ) (kerb : KerbRuns) (before : List ℤ) where
  pub touch_short : length before < 3 → TouchCalled s n kerb before 21 before
  touch_short h = record { told = too_short 3 (touch_told (kerbed_ticks (read_job s) n kerb)) before h; apart = λ g. absurd (omega arith) }

  pub touch_called : 3 ≤ length before → (a : Kerbed) → TicksEnsures s n kerb a → (m : ℕ) (after : List ℤ) → TellEnsures (touch_told a) before m after → TouchCalled s n kerb before m after
  touch_called h a k m after t = record {
    told = answered_as 3 touch_told before m after h a (kerbed_ticks (read_job s) n kerb) k.answer t;
    apart = λ g. subst (TouchApart m) k.answer (subst (λ (x : ℕ). TouchApart x a) (sym t.number) (touch_apart a k.ranges));
  }

-- ---- a reading

module _ (g : List ℕ) (k : KerbRuns) where
  read_apart : (x : Read Survey) → read_geometry g ≡ x → ReadApart (ticks_told (kerb_answer x k.xs k.ys)).number (kerb_answer x k.xs k.ys)
  read_apart (got v e) q = by (room_in (length (vertices_of v)) k.xs k.ys)
    where
      by : (b : Bool) → let a = pick b (R.vertices (length (vertices_of v))) (R.refused 21) in ReadApart (ticks_told a).number a
      by true = refl
      by false = refl
  read_apart (refused n p) q =
      let h = first_bytes_lem.number g n p q in
      let e = byte_apart n p (by h) in
      record { number = e.0; byte = e.1; named = h; near = omega (arith, (first_bytes_lem.place g n p q).0) }
    where
      by : (n ≡ 12) ⊎ (n ≡ 13) → n < 256
      by (inl z) = omega arith
      by (inr z) = omega arith

  pub read_fits : (x : Read Survey) → read_geometry g ≡ x → ReadFits (kerb_answer x k.xs k.ys)
  read_fits (got v e) q = by (room_in (length (vertices_of v)) k.xs k.ys)
    where
      by : (b : Bool) → ReadFits (pick b (R.vertices (length (vertices_of v))) (R.refused 21))
      by true = let w = read_within_lem g v e q in omega (arith, count_is v w, w.most)
      by false = tt
  read_fits (refused n p) q = record { byte = omega (arith, (first_bytes_lem.place g n p q).0) }

  module _ (before : List ℤ) where
    pub ticks_short : length before < 1 → TicksCalled g k before 21 k before
    ticks_short h =
        let e = lt-leb 1 (length before) h in
        record { told = too_short 1 (ticks_told (kerb_answer (read_geometry g) k.xs k.ys)) before h; apart = λ x. absurd (omega arith); ticks = rw e refl }

    pub ticks_called : 1 ≤ length before → (r : Result ℕ KerbRefusal) (xs ys : List ℤ) → KerbEnsures g k.xs k.ys r xs ys → (m : ℕ) (after : List ℤ) → TellEnsures (ticks_told (as_kerb r)) before m after
        → TicksCalled g k before m (kerb_runs xs ys) after
    ticks_called h r xs ys t m after u =
        let a = as_kerb r in
        let e = le-leb 1 (length before) h in
        let p = t.east in
        let q = t.north in
        let b = kerb_answer (read_geometry g) k.xs k.ys in
        record {
          told = answered_as 1 ticks_told before m after h a b t.answer u;
          apart = λ x. subst (ReadApart m) t.answer (subst (λ (y : ℕ). ReadApart y a) (sym u.number) (subst (λ (y : KerbRead). ReadApart (ticks_told y).number y) (sym t.answer) (read_apart (read_geometry g) refl)));
          ticks = rw e (λ i. kerb_runs (p i) (q i));
        }
