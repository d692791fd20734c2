-- From an answer told to what a call ensures: the number can be taken apart again, on the caller's runs and on the library's own.
use Prim.Native.Nat.{ℕ, ◌≤◌, ◌<◌}
use mathlib.Core.Path.{◌≡◌, refl, sym, subst}
use mathlib.Core.List.{List}
use mathlib.Core.Logic.{◌⊎◌, inl, inr}
use native.Mathlib.Omega.{arith}
use borrow.Author.Tests.{le-leb, lt-leb}
use lib.ListN.{length}
use lib.IntN.{ℤ}
use Rattle.job_reader.specs.Record.{read_job}
use Rattle.path.specs.Laying.{PathRuns}
use Rattle.reaches.specs.Cells.{Reaches}
use Rattle.swept.specs.Answers.{Swept}
use Rattle.swept.specs.Answers as S
use Rattle.swept.specs.Swept.{swept_of, swept_into}
use Rattle.swept.specs.Ranges.{RefusedSo, SweptEnsures, IntoSo, IntoEnsures}
use Rattle.swept.proofs.SweptLaws.{answered_into}
use Rattle.answer_run.specs.Answers.{Told, TellEnsures, Answered, at_byte, at_unit}
use Rattle.answer_run.proofs.AnswerLaws.{answered_as}
use Rattle.entries.specs.Answers.{sweep_told}
use Rattle.entries.specs.Inner.{SweptFits}
use Rattle.turning.specs.Calls.{number_in, byte_in, unit_in, step_in, ByteTold, TakenApart, SweepCalled, RunCalled}

-- a number below 256, with a byte, or with a unit below 256 and a step
pub byte_apart : (n p : ℕ) → n < 256 → (number_in (at_byte n p) ≡ n) × (byte_in (at_byte n p) ≡ p)
byte_apart n p h = (omega arith, omega arith)

pub unit_apart : (n u k : ℕ) → n < 256 → u < 256 → (number_in (at_unit n u k) ≡ n) × (unit_in (at_unit n u k) ≡ u) × (step_in (at_unit n u k) ≡ k)
unit_apart n u k h g = (omega arith, omega arith, omega arith)

-- an answer run with too few entries
pub too_short : (room : ℕ) (t : Told) (before : List ℤ) → length before < room → Answered room t before 21 before
too_short room t before h = let e = lt-leb room (length before) h in record { number = rw e refl; run = rw e refl }

module _ (s : List ℕ) where
  pub record_refused : (n p : ℕ) → RefusedSo s n p → ByteTold (at_byte n p) n p
  record_refused n p h = let e = byte_apart n p (omega (arith, h.number.1)) in record { number = e.0; byte = e.1; named = inl h.number }

  taken_apart : (a : Swept) → IntoSo s a → TakenApart (sweep_told a).number a
  taken_apart (S.finished f) h = refl
  taken_apart (S.stopped n u k) h = let e = unit_apart n u k (below h.number) (omega (arith, h.unit.1)) in record { number = e.0; unit = e.1; step = e.2; named = h }
    where
      below : (n ≡ 22) ⊎ (n ≡ 23) → n < 256
      below (inl e) = omega arith
      below (inr e) = omega arith
  taken_apart (S.refused n p) (inl h) = record_refused n p h
  taken_apart (S.refused n p) (inr h) = let e = byte_apart n p (omega (arith, h.0)) in record { number = e.0; byte = e.1; named = inr h }

  pub fits : (a : Swept) → IntoSo s a → SweptFits a
  fits (S.finished f) h = h
  fits (S.stopped n u k) h = record { unit = h.unit.1; step = h.step.1 }
  fits (S.refused n p) (inl h) = record { byte = omega (arith, h.near) }
  fits (S.refused n p) (inr h) = record { byte = omega (arith, h.1) }

  module _ (before : List ℤ) where
    -- an answer run with too few entries
    module _ (h : length before < 8) where
      pub sweep_short : SweepCalled s before 21 before
      sweep_short = record { told = too_short 8 (sweep_told (swept_of s)) before h; apart = λ g. absurd (omega arith) }

      pub run_short : (p : PathRuns) (r : Reaches) → RunCalled s p r before 21 p r before
      run_short p r =
          let e = lt-leb 8 (length before) h in
          record { told = too_short 8 (sweep_told (swept_into (read_job s) p r)) before h; apart = λ g. absurd (omega arith); path = rw e refl; reaches = rw e refl }

    -- an answer told
    module _ (h : 8 ≤ length before) (a : Swept) (n : ℕ) (after : List ℤ) (t : TellEnsures (sweep_told a) before n after) where
      told_so : (b : Swept) → a ≡ b → Answered 8 (sweep_told b) before n after
      told_so b e = answered_as 8 sweep_told before n after h a b e t

      apart_so : (b : Swept) → a ≡ b → IntoSo s a → TakenApart n b
      apart_so b e i = subst (TakenApart n) e (subst (λ (m : ℕ). TakenApart m a) (sym t.number) (taken_apart a i))

      pub sweep_called : SweptEnsures s a → SweepCalled s before n after
      sweep_called k = record { told = told_so (swept_of s) k.answer; apart = λ g. apart_so (swept_of s) k.answer (answered_into s a k.ranges) }

      pub run_called : (p : PathRuns) (r : Reaches) (p' : PathRuns) (r' : Reaches) → IntoEnsures s p r a p' r' → RunCalled s p r before n p' r' after
      run_called p r p' r' k =
          let e = le-leb 8 (length before) h in
          let b = swept_into (read_job s) p r in
          record { told = told_so b k.answer; apart = λ g. apart_so b k.answer k.ranges; path = rw e k.path; reaches = rw e k.reaches }
