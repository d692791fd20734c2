-- Runs that stay the same loans, over several calls.
use mathlib.Core.Path.{refl, ◌∙◌}
use Rattle.path.specs.declared.PathRoom.{PathRoom}
use Rattle.path.specs.Lent.{SameLoans}

pub same_loans : {a : PathRoom} → SameLoans a a
same_loans = record { xs = refl; ys = refl; gxs = refl; gys = refl }

pub loans_on : {a b c : PathRoom} → SameLoans a b → SameLoans b c → SameLoans a c
loans_on s t = record { xs = t.xs ∙ s.xs; ys = t.ys ∙ s.ys; gxs = t.gxs ∙ s.gxs; gys = t.gys ∙ s.gys }
