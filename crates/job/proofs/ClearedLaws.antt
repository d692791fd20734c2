-- Emptying the bodies that a short job does not have changes no fault, and once is enough. Assumes nothing.
use Prim.Native.Nat.{ℕ, ◌+◌, ◌≤◌}
use mathlib.Core.Path.{◌≡◌, refl}
use mathlib.Core.List.{List, [], ◌∷◌, map}
use native.Mathlib.Omega.{arith}
use lib.ListN.{length, take, length-take, length-map}
use Rattle.number.proofs.CodecMany.{take_sets}
use Rattle.job.specs.Faults.{fault_of, unit_fault_at, units_fault}
use Rattle.job.specs.Empty.{empty_units, cleared_unit, cleared_units}
use Rattle.job.specs.declared.Form.{Form}
use Rattle.job.specs.declared.Form.TheVariants.{Short, Long}
use Rattle.job.specs.declared.Unit.{Unit as VehicleUnit}

-- what every unit has as it was before, a row of units has
unit_once : (form : Form) (u : VehicleUnit) → cleared_unit form (cleared_unit form u) ≡ cleared_unit form u
unit_once Short u = refl
unit_once Long u = refl

pub units_once : (form : Form) (us : List VehicleUnit) → map (cleared_unit form) (map (cleared_unit form) us) ≡ map (cleared_unit form) us
units_once form [] = refl
units_once form (u ∷ us) = rw (unit_once form u, units_once form us)

fault_cleared : (form : Form) (count i : ℕ) (u : VehicleUnit) → unit_fault_at form count i (cleared_unit form u) ≡ unit_fault_at form count i u
fault_cleared Short count i u = refl
fault_cleared Long count i u = refl

pub row_cleared : (form : Form) (count i : ℕ) (us : List VehicleUnit) → fault_of (unit_fault_at form count) (λ i u. i + 1) (λ i. 0) i (map (cleared_unit form) us) ≡ fault_of (unit_fault_at form count) (λ i u. i + 1) (λ i. 0) i us
unfolding fault_of
row_cleared form count i [] = refl
row_cleared form count i (u ∷ us) = rw (fault_cleared form count i u, row_cleared form count (i + 1) us)

-- the units in use of an array whose other entries are emptied
pub used_cleared : (form : Form) (count : ℕ) (us : List VehicleUnit) → length us ≡ 4 → count ≤ 4 → take count (cleared_units form count us) ≡ map (cleared_unit form) (take count us)
unfolding empty_units
used_cleared form count us l m = take_sets empty_units (map (cleared_unit form) (take count us)) count (omega (arith, length-map (take count us) (cleared_unit form), length-take count us)) m

pub units_cleared : (form : Form) (count : ℕ) (us : List VehicleUnit) → length us ≡ 4 → count ≤ 4 → units_fault form count (cleared_units form count us) ≡ units_fault form count us
unfolding units_fault
units_cleared form count us l m = rw (used_cleared form count us l m) (row_cleared form count 0 (take count us))
