-- "An element is cut into full steps and, where a remainder is left, one shorter step. The job's steps may total at most 2,000" (01, "The job record").
use Rattle.std.specs.Prelude.{ℕ, ◌+◌, ◌/◌, ◌%◌, Bool, leb, eqb}
use Rattle.number.specs.Read.{pick}
use Rattle.job.specs.declared.Element.{Element}

abbrev pub steps_of : ℕ → ℕ → ℕ
steps_of step length = length / step + pick (eqb (length % step) 0) 0 1

-- the running total after one element more
abbrev pub tally : ℕ → ℕ → Element → ℕ
tally step total e = total + steps_of step e.length

abbrev pub steps_allowed : ℕ → Bool
steps_allowed total = leb total 2000
