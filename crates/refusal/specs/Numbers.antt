-- The number of each refusal (01, "Why a job is turned down" and "Why a walk is turned down"; 02, N1 and N4), and what an answer says, case by case.
use Rattle.std.specs.Prelude.{ℕ, Result, Ok, Err}
use Rattle.refusal.specs.declared.Fault.{Fault}
use Rattle.refusal.specs.declared.Fault.TheVariants as F

abbrev pub number_of : Fault → ℕ
number_of F.Ended = 1
number_of F.NotShortest = 2
number_of F.UnitCount = 3
number_of F.Unit = 4
number_of F.Width = 5
number_of F.Start = 6
number_of F.Step = 7
number_of F.Element = 8
number_of F.StepTotal = 9
number_of F.LeftOver = 10
number_of F.Geometry = 12
number_of F.Coordinate = 13
number_of F.RunTooShort = 21
number_of F.MoveTooLong = 22
number_of F.FoldLimit = 23
number_of F.NoneComplete = 24
number_of F.LastStation = 25
number_of F.PathUnsound = 26
number_of F.RecordUnsound = 27
number_of F.NoRoom = 28
number_of F.Rail = 29
number_of F.NoneListed = 30

-- a value, or a refusal's number
pub data Answer (A : Type 0) : Type 0 where
  answered : A → Answer A
  refused : ℕ → Answer A

abbrev pub as_answer : {A : Type 0} → Result A Fault → Answer A
as_answer (Ok a) = answered a
as_answer (Err f) = refused (number_of f)

-- the number of a fault, 0 for none
abbrev pub fault_number : {A : Type 0} → Result A Fault → ℕ
fault_number (Ok a) = 0
fault_number (Err f) = number_of f
