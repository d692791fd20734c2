-- What each answer of the code says, case by case, as a reading.
use Rattle.std.specs.Prelude.{ℕ, Result, Ok, Err}
use Rattle.refusal.specs.Numbers.{number_of}
use Rattle.refusal.specs.declared.Refusal.{Refusal}
use Rattle.number.specs.Read.{Read, got, refused}
use Rattle.number.specs.declared.Cursor.{Cursor}
use Rattle.number.specs.declared.FieldFault.{FieldFault}
use Rattle.number.specs.declared.FieldFault.TheVariants.{Ended, NotShortest, NotAllowed}
use Rattle.number.specs.declared.Misread.{Misread}

-- the number of a field's fault; what is not allowed has the number of the field that it stands in
abbrev pub field_fault_number : ℕ → FieldFault → ℕ
field_fault_number own Ended = 1
field_fault_number own NotShortest = 2
field_fault_number own NotAllowed = own

abbrev pub as_read : {A : Type 0} → ℕ → Result (A × Cursor) Misread → Read A
as_read own (Ok (v, c)) = got v c.at
as_read own (Err r) = refused (field_fault_number own r.fault) r.place

-- the same where a fault has been named
abbrev pub as_part : {A : Type 0} → Result (A × Cursor) Refusal → Read A
as_part (Ok (v, c)) = got v c.at
as_part (Err r) = refused (number_of r.fault) r.place
