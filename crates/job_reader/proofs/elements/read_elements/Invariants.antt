-- `job_reader::elements::read_elements` meets its contract. Assumes nothing.
use Prim.Native.Nat.{ℕ, ◌≤◌, ◌-◌, ◌*◌}
use mathlib.Core.Path.{◌≡◌}
use mathlib.Core.List.{List, ◌++◌}
use lib.ListN.{drop}
use Rattle.number.specs.Read.{Reader, many, into}
use Rattle.job.specs.Empty.{empty_elements}
use Rattle.job.specs.Steps.{tally}
use Rattle.job.specs.declared.Element.{Element}
use Rattle.job_reader.specs.Record.{read_element, read_total, read_elements}
use Rattle.job_reader.proofs.elements.read_elements.Given as goal

-- the elements from i on, with the steps of those before them
abbrev pub rest : ℕ → ℕ → ℕ → ℕ → ℕ → Reader (List Element)
rest step place count i total = many (λ t. read_element) (tally step) (read_total place) (count - i) total

-- the elements in use with those after them
abbrev pub all : List Element → ℕ → List Element
all used count = used ++ drop count empty_elements

abbrev pub invariant-loop-slot : goal.invariant-loop-slot
invariant-loop-slot l = (l.total ≤ l.slot-index * 40000001) × (into (all l.slot-items l.count) l.slot-index (rest l.step l.place l.count l.slot-index l.total l.s l.at.at) ≡ read_elements l.step l.place l.count l.s l.initial.at.at)
