-- `job_reader::first::read_announced` meets its contract. Assumes nothing.
use native.Mathlib.Omega.{arith}
use mathlib.Core.Path.{◌≡◌, ◌∙◌}
use mathlib.Core.Bool.{false}
use Rattle.number.specs.Field.{field}
use Rattle.job.specs.Announced.{announces}
use Rattle.job_reader.proofs.FirstLaws.{short, long, nothing}
use Rattle.job_reader.proofs.PartLaws.{handed_on}
use Rattle.job_reader.proofs.first.read_announced.Goals as goal
use Rattle.job_reader.proofs.first.read_announced.Goals.{in_default-via-then-n-lt1, in_default-via-else-n-lt1+else-n-lt5+then-n-lt11, in_default-via-else-n-lt1+else-n-lt5+else-n-lt11+else-n-lt15}

pub returns-in_err-n : goal.returns-in_err-n
unfolding field
returns-in_err-n c = rw (handed_on _ c.from_residual.result c.from_residual.ensures.1, ← (c.in_err-n.ensures ∙ c.read.ensures 3))

pub returns-in-1-to-4 : goal.returns-in-1-to-4
unfolding field
returns-in-1-to-4 c =
    let k = short c.in_ok-n.n (omega arith) (omega arith) in
    rw (← (c.in_ok-n.ensures ∙ c.read.ensures 3), k.allowed, k.form, k.count)

pub returns-in-11-to-14 : goal.returns-in-11-to-14
unfolding field
returns-in-11-to-14 c =
    let k = long c.in_ok-n.n (omega arith) (omega arith) in
    rw (← (c.in_ok-n.ensures ∙ c.read.ensures 3), k.allowed, k.form, k.count)

pub returns-in_default : goal.returns-in_default
unfolding field
returns-in_default c =
    let n = c.in_ok-n.n in
    let none : announces n ≡ false = elim c.in_default.branch [ in_default-via-then-n-lt1 w ↦ nothing n (λ a b. omega arith) (λ a b. omega arith) | in_default-via-else-n-lt1+else-n-lt5+then-n-lt11 w ↦ nothing n (λ a b. omega arith) (λ a b. omega arith) | in_default-via-else-n-lt1+else-n-lt5+else-n-lt11+else-n-lt15 w ↦ nothing n (λ a b. omega arith) (λ a b. omega arith) ] in
    rw (c.at.ensures, ← (c.in_ok-n.ensures ∙ c.read.ensures 3), none)
