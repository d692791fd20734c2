-- `job_reader::units::read_units` meets its contract. Assumes nothing.
use Prim.Native.Nat.{ℕ, ◌-◌, ◌+◌}
use mathlib.Core.Path.{◌≡◌}
use mathlib.Core.List.{List, [], ◌++◌}
use lib.ListN.{drop}
use Rattle.number.specs.Read.{Reader, return, many, into}
use Rattle.job.specs.Empty.{empty_units}
use Rattle.job.specs.declared.Form.{Form}
use Rattle.job.specs.declared.Unit.{Unit as VehicleUnit}
use Rattle.job_reader.specs.Record.{read_unit_at, read_units}
use Rattle.job_reader.proofs.units.read_units.Given as goal

abbrev pub next : ℕ → VehicleUnit → ℕ
next i u = i + 1

abbrev pub end : ℕ → Reader (List VehicleUnit)
end i = return []

-- the units from i on
abbrev pub rest : Form → ℕ → ℕ → Reader (List VehicleUnit)
rest form count i = many (read_unit_at form count) next end (count - i) i

-- the units in use with those after them
abbrev pub all : List VehicleUnit → ℕ → List VehicleUnit
all used count = used ++ drop count empty_units

abbrev pub invariant-loop-i : goal.invariant-loop-i
invariant-loop-i l = into (all l.place-items l.count) l.i (rest l.form l.count l.i l.s l.at.at) ≡ read_units l.form l.count l.s l.initial.at.at
