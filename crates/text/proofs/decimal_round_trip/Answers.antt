-- `text::decimal_round_trip` meets its contract. Assumes nothing.
use Rattle.text.proofs.ReadingLaws.{round_trip}
use Rattle.text.proofs.decimal_round_trip.Goals as goal

pub returns : goal.returns
returns c = round_trip
