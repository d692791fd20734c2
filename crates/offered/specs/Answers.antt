-- What the list of settings comes to from a job's bytes (02, N1), case by case.
use Rattle.std.specs.Prelude.{ℕ, Result, Ok, Err}
use Rattle.refusal.specs.Numbers.{number_of}
use Rattle.told.specs.declared.Numbered.{Numbered}
use Rattle.told.specs.declared.Numbered.TheVariants as T
use Rattle.ranking.specs.declared.Shortlist.{Shortlist}
use Rattle.ranking.specs.Ranking.{Listed, as_list}
use Rattle.ranking.specs.Ranking as L
use Rattle.offered.specs.declared.OfferRefusal.{OfferRefusal}
use Rattle.offered.specs.declared.OfferRefusal.TheVariants as R

-- what the list of the job comes to; or the record's refusal, with the byte where the field starts
pub data Offered : Type 0 where
  listed : Listed → Offered
  refused : ℕ → ℕ → Offered

-- a refusal by the number that tells it
abbrev pub told_refusal : OfferRefusal → Numbered
told_refusal (R.Record r) = T.At (number_of r.fault) r.place
told_refusal (R.List f) = T.Alone (number_of f)

-- what a refusal says that is told
abbrev pub as_refused : Numbered → Offered
as_refused (T.At n p) = refused n p
as_refused (T.Alone n) = listed (L.refused n)

-- what an answer says whose refusal is told so
abbrev pub offered_by : {R : Type 0} → (R → Numbered) → Result Shortlist R → Offered
offered_by told (Ok l) = listed (as_list l)
offered_by told (Err r) = as_refused (told r)

-- the same, of the program's answer
abbrev pub as_offered : Result Shortlist OfferRefusal → Offered
as_offered = offered_by told_refusal
