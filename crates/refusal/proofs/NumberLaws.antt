-- Each reason has a number of its own, so two answers that say the same are the same. Assumes nothing.
use Prim.Native.Nat.{ℕ}
use mathlib.Core.Path.{◌≡◌, refl, sym, ◌∙◌, ap}
use mathlib.Core.List.{List, [], ◌∷◌}
use native.Mathlib.Omega.{arith}
use lib.ListN.{get_or}
use Rattle.std.specs.Prelude.{Result, Ok, Err}
use Rattle.refusal.specs.Numbers.{number_of, as_answer}
use Rattle.refusal.specs.declared.Fault.{Fault}
use Rattle.refusal.specs.declared.Fault.TheVariants as F

-- the reasons by their numbers; the numbers between have none
unfoldable by_number : List Fault
by_number = F.Ended ∷ F.Ended ∷ F.NotShortest ∷ F.UnitCount ∷ F.Unit ∷ F.Width ∷ F.Start ∷ F.Step ∷ F.Element ∷ F.StepTotal ∷ F.LeftOver ∷ F.Ended ∷ F.Geometry ∷ F.Coordinate ∷ F.Ended ∷ F.Ended ∷ F.Ended ∷ F.Ended ∷ F.Ended ∷ F.Ended ∷ F.Ended ∷ F.RunTooShort ∷ F.MoveTooLong ∷ F.FoldLimit ∷ F.NoneComplete ∷ F.LastStation ∷ F.PathUnsound ∷ F.RecordUnsound ∷ F.NoRoom ∷ F.Rail ∷ F.NoneListed ∷ []

named_by : (f : Fault) → get_or by_number (number_of f) F.Ended ≡ f
unfolding by_number
named_by F.Ended = refl
named_by F.NotShortest = refl
named_by F.UnitCount = refl
named_by F.Unit = refl
named_by F.Width = refl
named_by F.Start = refl
named_by F.Step = refl
named_by F.Element = refl
named_by F.StepTotal = refl
named_by F.LeftOver = refl
named_by F.Geometry = refl
named_by F.Coordinate = refl
named_by F.RunTooShort = refl
named_by F.MoveTooLong = refl
named_by F.FoldLimit = refl
named_by F.NoneComplete = refl
named_by F.LastStation = refl
named_by F.PathUnsound = refl
named_by F.RecordUnsound = refl
named_by F.NoRoom = refl
named_by F.Rail = refl
named_by F.NoneListed = refl

pub same_number : (f g : Fault) → number_of f ≡ number_of g → f ≡ g
same_number f g h = sym (named_by f) ∙ ap (λ n. get_or by_number n F.Ended) h ∙ named_by g

pub same_answer : {A : Type 0} (a b : Result A Fault) → as_answer a ≡ as_answer b → a ≡ b
same_answer (Ok a) (Ok b) h = cc
same_answer (Err f) (Err g) h = ap Err (same_number f g cc)
same_answer (Ok a) (Err g) h = absurd (let z : ◌≡◌ {A = ℕ} 0 1 = cc in omega arith)
same_answer (Err f) (Ok b) h = absurd (let z : ◌≡◌ {A = ℕ} 0 1 = cc in omega arith)
