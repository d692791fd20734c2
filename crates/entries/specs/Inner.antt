-- What the functions that are no entries require of their callers.
use Rattle.std.specs.Prelude.{ℕ}
use Rattle.run.specs.declared.Finish.{Finish}
use Rattle.swept.specs.declared.SweepTold.{SweepTold}
use Rattle.swept.specs.declared.SweepTold.TheVariants as T
use Rattle.swept.specs.Answers.{Swept}
use Rattle.swept.specs.Answers as S
use Rattle.swept.specs.Ranges.{FinishedSo}
use Rattle.offered.specs.Answers.{Offered}
use Rattle.offered.specs.Answers as O
use Rattle.answer_run.specs.Inner.{Room, ByteFits, UnitFits}

pub record FinishFits (f : Finish) (n : ℕ) : Type 0 where
  pub room : Room 0 8 n
  pub ranges : FinishedSo f

-- the answer of a job's walk
abbrev pub SweptFits : Swept → Type 0
SweptFits (S.finished f) = FinishedSo f
SweptFits (S.stopped n u k) = UnitFits u k
SweptFits (S.refused n p) = ByteFits p

pub record AnswerFits (a : Swept) (n : ℕ) : Type 0 where
  pub room : Room 0 8 n
  pub ranges : SweptFits a

-- why there is no answer
abbrev pub RefusalFits : SweepTold → Type 0
RefusalFits (T.Stopped n u k) = UnitFits u k
RefusalFits (T.Refused n p) = ByteFits p

abbrev pub OfferedFits : Offered → Type 0
OfferedFits (O.listed l) = Unit {0}
OfferedFits (O.refused n p) = ByteFits p

pub record OfferFits (a : Offered) (n : ℕ) : Type 0 where
  pub room : Room 0 7 n
  pub ranges : OfferedFits a
