-- What the functions that are no entries require of their callers: room in the answer run, and what stands beside the answer in its ranges.
use Rattle.std.specs.Prelude.{ℕ, ◌≤◌}
use Rattle.answer_run.specs.Inner.{Room, ByteFits, UnitFits}
use Rattle.kerb_reader.specs.Answers.{KerbRead}
use Rattle.kerb_reader.specs.Answers as R
use Rattle.kerbed.specs.Answers.{Kerbed}
use Rattle.kerbed.specs.Answers as K

-- a step and a point that an entry holds
pub record TouchFits (k p : ℕ) : Type 0 where
  pub step : k ≤ 2000
  pub point : p ≤ 19

abbrev pub KerbedFits : Kerbed → Type 0
KerbedFits K.nothing = Unit {0}
KerbedFits (K.touch k p) = TouchFits k p
KerbedFits (K.stopped n u k) = UnitFits u k
KerbedFits (K.refused n p) = ByteFits p

pub record AnswerFits (a : Kerbed) (n : ℕ) : Type 0 where
  pub room : Room 0 3 n
  pub ranges : KerbedFits a

abbrev pub ReadFits : KerbRead → Type 0
ReadFits (R.vertices n) = n ≤ 500
ReadFits (R.refused_at n p) = ByteFits p
ReadFits (R.refused n) = Unit {0}

pub record TicksFit (a : KerbRead) (n : ℕ) : Type 0 where
  pub room : Room 0 1 n
  pub ranges : ReadFits a
