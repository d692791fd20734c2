-- What the functions below the entries ask can be met: the longest walk, widest at its last station, in a run with no entry to spare.
use native.Mathlib.Omega.{arith}
use lib.IntN.{pos, negsuc}
use Rattle.std.specs.Prelude.{Some}
use Rattle.run.specs.declared.Finish.{Finish}
use Rattle.swept.specs.Answers as S
use Rattle.offered.specs.Answers as O
use Rattle.answer_run.proofs.Witnesses.{room_met, byte_met, unit_met}
use Rattle.entries.specs.Inner.{FinishFits, AnswerFits, OfferFits}

abbrev longest : Finish
longest = record {
  steps = 2000;
  widest = Some (record { station = 2000; width = pos 54125; left = negsuc 35840; right = pos 18284 });
  front = record { x = pos 150000000; y = negsuc 149999999 };
}

finish_met : FinishFits longest 8
finish_met = record { room = room_met; ranges = record { steps = omega arith; widest = omega arith } }

answer_met : AnswerFits (S.stopped 23 4 2000) 8
answer_met = record { room = room_met; ranges = unit_met }

offer_met : OfferFits (O.refused 10 1024) 7
offer_met = record { room = record { room = omega arith }; ranges = byte_met }
