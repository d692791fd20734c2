-- Runs that stay the same loans, over several calls.
use mathlib.Core.Path.{refl, ◌∙◌}
use Rattle.reaches.specs.declared.ReachRoom.{ReachRoom}
use Rattle.reaches.specs.Lent.{SameLoans}

pub same_loans : {a : ReachRoom} → SameLoans a a
same_loans = record { left = refl; right = refl; marks = refl }

pub loans_on : {a b c : ReachRoom} → SameLoans a b → SameLoans b c → SameLoans a c
loans_on s t = record { left = t.left ∙ s.left; right = t.right ∙ s.right; marks = t.marks ∙ s.marks }
