-- What the functions below the entries ask can be met, in runs with no entry to spare.
use native.Mathlib.Omega.{arith}
use Rattle.kerb_reader.specs.Answers as R
use Rattle.kerbed.specs.Answers as K
use Rattle.kerb_told.specs.Inner.{AnswerFits, TicksFit}

answer_met : AnswerFits (K.touch 2000 19) 3
answer_met = record { room = record { room = omega arith }; ranges = record { step = omega arith; point = omega arith } }

ticks_met : TicksFit (R.refused_at 12 8009) 1
ticks_met = record { room = record { room = omega arith }; ranges = record { byte = omega arith } }
