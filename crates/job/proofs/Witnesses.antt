-- What the inner functions require can be met. Assumes nothing.
use native.Mathlib.Omega.{arith}
use Rattle.job.specs.Inner.{Countable, UnitsInUse, ElementsInUse}

countable : Countable 100 0
countable = record { positive = omega arith; room = omega arith }

units_in_use_lem : UnitsInUse 4
units_in_use_lem = record { most = omega arith }

elements_in_use : ElementsInUse 20000 64
elements_in_use = record { positive = omega arith; most = omega arith }
