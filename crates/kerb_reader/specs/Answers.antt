-- What each answer of the code says, case by case.
use Rattle.std.specs.Prelude.{ℕ, Result, Ok, Err}
use Rattle.refusal.specs.Numbers.{number_of}
use Rattle.refusal.specs.declared.Refusal.{Refusal}
use Rattle.told.specs.declared.Numbered.{Numbered}
use Rattle.told.specs.declared.Numbered.TheVariants as T
use Rattle.number.specs.Read.{Read, got, refused as refused_read}
use Rattle.kerb_reader.specs.declared.Survey.{Survey}
use Rattle.kerb_reader.specs.declared.KerbRefusal.{KerbRefusal}
use Rattle.kerb_reader.specs.declared.KerbRefusal.TheVariants.{Field, NoRoom}

-- a survey takes all bytes, of which there are so many; or the refusal's number and place
abbrev pub as_geometry : ℕ → Result Survey Refusal → Read Survey
as_geometry size (Ok g) = got g size
as_geometry size (Err r) = refused_read (number_of r.fault) r.place

-- how many vertices stand in the lent runs; or a refusal's number and place, or its number alone
pub data KerbRead : Type 0 where
  vertices : ℕ → KerbRead
  refused_at : ℕ → ℕ → KerbRead
  refused : ℕ → KerbRead

-- a refusal by the number that tells it; want of room is 21
abbrev pub told_refusal : KerbRefusal → Numbered
told_refusal (Field r) = T.At (number_of r.fault) r.place
told_refusal NoRoom = T.Alone 21

-- what a refusal says that is told
abbrev pub as_refused : Numbered → KerbRead
as_refused (T.At n p) = refused_at n p
as_refused (T.Alone n) = refused n

-- what an answer says whose refusal is told so
abbrev pub kerb_by : {R : Type 0} → (R → Numbered) → Result ℕ R → KerbRead
kerb_by told (Ok n) = vertices n
kerb_by told (Err r) = as_refused (told r)

-- the same, of the program's answer
abbrev pub as_kerb : Result ℕ KerbRefusal → KerbRead
as_kerb = kerb_by told_refusal
